-- Folded options and their unfoldings: what each has, that the unfoldings are the options, and that their executions are
-- the good traces.
use Rattle.std.proofs.Common.{◌≡◌, ◌≢◌, ℕ, Bool, true, List, refl, sym, ◌∙◌, subst, ◌↔◌}
use Rattle.flow_model.specs.Lists.{◌∈◌, AreInOrder}
use Rattle.flow_model.specs.Process.{Process, leaves}
use Rattle.flow_model.specs.Trace.{Trace}
use Rattle.flow_model.specs.Facts.{events_of}
use Rattle.flow_model.specs.Constraint.{Constraint, Meets, all_of}
use Rattle.flow_model.specs.Ways.{ways_of, normal_form, leaf_of_event}
use Rattle.flow_model.specs.Schema.{Schema, IsGood}
use Rattle.flow_model.specs.Resolution.{ChoiceOption, OptionTrace, options, options_in, ways_in, resolutions}
use Rattle.flow_model.specs.Folding.{named_events, folded_resolutions, fixed_leaves, folded_ways, folded_options_in, folded_options_by, KeepsNamedApart, IsUnfolding}
use Rattle.flow_model.proofs.MadeLists.{of_flat_map, of_map, mem-flat_map, mem-map}
use Rattle.flow_laws.specs.WellFormed.{IsWellFormed}
use Rattle.flow_laws.proofs.ResolutionsLemmas.{resolves_of, mem-resolutions, blocks_of_a_resolution, goal_trace}
use Rattle.flow_laws.proofs.FoldingLemmas.{folds_to, mem-folded_resolutions, is_folded, distinct-folded_leaves}
use Rattle.flow_laws.proofs.WaysLemmas.{each_pair, leaf_of_event_is, same_event, HasWay}
use Rattle.flow_laws.proofs.OptionsLemmas.{option_parts, distinct_leaves, has_its_leaves, constraint_by_ways, option_of_good, option_trace_is_good}
use Rattle.flow_fold_laws.specs.Unfolding.{IsFoldedOrdered}
use Rattle.flow_fold_laws.proofs.Unfoldings.{resolves_on, folds_between, folds_to_one}
use Rattle.flow_fold_laws.proofs.UnfoldedWays.{ways_unfold}

-- What a folded option is

pub folded_option_parts : (apart : ℕ → Bool) (w : Schema) (o : ChoiceOption) → o ∈ folded_options_by apart w →
    (o.resolution ∈ folded_resolutions apart w.goal) × (o.order ∈ folded_ways w o.resolution)
folded_option_parts apart w o m =
    let (q, mq, mo) = of_flat_map (folded_options_in w) o (folded_resolutions apart w.goal) m in
    let (way, mw, e) = of_map _ o (folded_ways w q) mo in rw e (mq, mw)

pub folded_option_is_ordered : (apart : ℕ → Bool) (w : Schema) → IsWellFormed w → (o : ChoiceOption) → o ∈ folded_options_by apart w →
    IsFoldedOrdered o.resolution o.order
folded_option_is_ordered apart w f o m =
    let (mq, mw) = folded_option_parts apart w o m in
    let h = folds_to apart w.goal o.resolution mq in
    let fixed = fixed_leaves o.resolution in
    let leaf = leaf_of_event w.labels fixed in
    record {
      folded = is_folded apart w.goal o.resolution h;
      distinct = distinct-folded_leaves apart w.goal o.resolution h (distinct_leaves w f);
      of_fixed = each_pair (λ pair. (pair.0 ∈ fixed) × (pair.1 ∈ fixed)) leaf
          (λ a b x y d i j. ((leaf_of_event_is w.labels fixed a x i).0, (leaf_of_event_is w.labels fixed b y j).0))
          (normal_form (all_of w.rules) true) o.order mw;
      different = each_pair (λ pair. pair.0 ≢ pair.1) leaf (λ a b x y d i j e. d (same_event w.labels fixed a b x y i j e))
          (normal_form (all_of w.rules) true) o.order mw;
    }

-- Options and unfoldings

-- the ways over the leaves outside choices are those over the leaves of an unfolding
folded_ways_unfold : (apart : ℕ → Bool) (w : Schema) → KeepsNamedApart apart w → (q u : Process) → q ∈ folded_resolutions apart w.goal → u ∈ resolutions q →
    ways_in w u ≡ folded_ways w q
folded_ways_unfold apart w keeps q u mq mu = ways_unfold apart w keeps (all_of w.rules) (λ e m. m) q u (folds_to apart w.goal q mq) (resolves_of q u mu)

-- a resolution of a folded resolution is one of the goal
resolution_of_goal : (apart : ℕ → Bool) (w : Schema) (q u : Process) → q ∈ folded_resolutions apart w.goal → u ∈ resolutions q → u ∈ resolutions w.goal
resolution_of_goal apart w q u mq mu = mem-resolutions w.goal u (resolves_on apart w.goal q u (folds_to apart w.goal q mq) (resolves_of q u mu))

pub folded_option_of : (apart : ℕ → Bool) (w : Schema) → KeepsNamedApart apart w → (u : ChoiceOption) → u ∈ options w →
    (o : ChoiceOption) × (o ∈ folded_options_by apart w) × IsUnfolding o u
folded_option_of apart w keeps u m =
    let (mu, mw) = option_parts w u m in
    let (q, h, r) = folds_between apart w.goal u.resolution (resolves_of w.goal u.resolution mu) in
    let mq = mem-folded_resolutions apart w.goal q h in
    let mr = mem-resolutions q u.resolution r in
    let way = subst (λ list. u.order ∈ list) (folded_ways_unfold apart w keeps q u.resolution mq mr) mw in (
      record { resolution = q; order = u.order },
      mem-flat_map (folded_options_in w) q _ (folded_resolutions apart w.goal) mq (mem-map _ u.order (folded_ways w q) way),
      (mr, refl),
    )

pub unfolding_is_option : (apart : ℕ → Bool) (w : Schema) → KeepsNamedApart apart w → (o u : ChoiceOption) → o ∈ folded_options_by apart w →
    IsUnfolding o u → u ∈ options w
unfolding_is_option apart w keeps o u m (mr, e) =
    let (mq, mw) = folded_option_parts apart w o m in
    let same = folded_ways_unfold apart w keeps o.resolution u.resolution mq mr in
    let way : u.order ∈ ways_in w u.resolution = rw e (subst (λ list. o.order ∈ list) (sym same) mw) in
    mem-flat_map (options_in w) u.resolution u (resolutions w.goal) (resolution_of_goal apart w o.resolution u.resolution mq mr)
    (mem-map _ u.order (ways_in w u.resolution) way)

pub unfolding_is_of_one : (apart : ℕ → Bool) (w : Schema) → IsWellFormed w → (o p u : ChoiceOption) →
    o ∈ folded_options_by apart w → p ∈ folded_options_by apart w → IsUnfolding o u → IsUnfolding p u → o ≡ p
unfolding_is_of_one apart w f o p u mo mp (ro, eo) (rp, ep) =
    let (qo, _) = folded_option_parts apart w o mo in
    let (qp, _) = folded_option_parts apart w p mp in
    let goal : o.resolution ≡ p.resolution = folds_to_one apart w.goal o.resolution p.resolution u.resolution (distinct_leaves w f)
    (folds_to apart w.goal o.resolution qo) (folds_to apart w.goal p.resolution qp)
    (resolves_of o.resolution u.resolution ro) (resolves_of p.resolution u.resolution rp) in
    let order : o.order ≡ p.order = sym eo ∙ ep in
    λ i. record { resolution = goal i; order = order i }

-- Executions

pub option_trace_unfolds : (o : ChoiceOption) (t : List ℕ) → OptionTrace o t → (u : ChoiceOption) × IsUnfolding o u × OptionTrace u t
option_trace_unfolds o t ((bs, h, e), s) =
    let (q, m, k) = blocks_of_a_resolution o.resolution bs h in (record { resolution = q; order = o.order }, (m, refl), ((bs, k, e), s))

pub trace_of_unfolding : (o u : ChoiceOption) (t : List ℕ) → IsUnfolding o u → OptionTrace u t → OptionTrace o t
trace_of_unfolding o u t (m, e) (h, s) = (goal_trace o.resolution u.resolution m t h, subst (λ pairs. AreInOrder pairs t) e s)

pub constraint_by_folded_ways : (apart : ℕ → Bool) (w : Schema) → IsWellFormed w → KeepsNamedApart apart w → (c : Constraint) →
    ((e : ℕ) → e ∈ named_events c → e ∈ named_events (all_of w.rules)) →
    (q : Process) → q ∈ folded_resolutions apart w.goal → (t : List ℕ) → Trace q t →
    Meets c (events_of w.labels t) ↔ HasWay (ways_of c w.labels (fixed_leaves q)) t
constraint_by_folded_ways apart w f keeps c named q mq t (bs, h, e) =
    let (u, mu, k) = blocks_of_a_resolution q bs h in
    let r = resolves_of q u mu in
    let its = has_its_leaves w f u (resolution_of_goal apart w q u mq mu) t (bs, k, e) in
    subst (λ list. Meets c (events_of w.labels t) ↔ HasWay list t) (ways_unfold apart w keeps c named q u (folds_to apart w.goal q mq) r)
    (constraint_by_ways c w.labels t (leaves u) its)

pub folded_option_of_good : (apart : ℕ → Bool) (w : Schema) → IsWellFormed w → KeepsNamedApart apart w → (t : List ℕ) → IsGood w t →
    (o : ChoiceOption) × (o ∈ folded_options_by apart w) × OptionTrace o t
folded_option_of_good apart w f keeps t good =
    let (u, mu, h) = option_of_good w f t good in
    let (o, mo, k) = folded_option_of apart w keeps u mu in (o, mo, trace_of_unfolding o u t k h)

pub folded_option_trace_is_good : (apart : ℕ → Bool) (w : Schema) → IsWellFormed w → KeepsNamedApart apart w → (t : List ℕ) (o : ChoiceOption) →
    o ∈ folded_options_by apart w → OptionTrace o t → IsGood w t
folded_option_trace_is_good apart w f keeps t o mo h =
    let (u, k, hu) = option_trace_unfolds o t h in option_trace_is_good w f t u (unfolding_is_option apart w keeps o u mo k) hu
