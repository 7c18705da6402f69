-- What may follow a journal by folded options.
use Rattle.std.proofs.Common.{◌≡◌, ℕ, Bool, List, [], ◌∷◌, ◌++◌, refl, sym, subst}
use Rattle.flow_model.specs.Lists.{◌∈◌, Each, Begins, IsOrderOf}
use Rattle.flow_model.specs.Process.{Process, leaves}
use Rattle.flow_model.specs.Trace.{Trace}
use Rattle.flow_model.specs.Schema.{Schema}
use Rattle.flow_model.specs.Resolution.{ChoiceOption, OptionTrace, options}
use Rattle.flow_model.specs.Folding.{is_named, folded_options_by, KeepsNamedApart}
use Rattle.flow_model.specs.Run.{RunState, current_leaves, MayFollow}
use Rattle.flow_laws.specs.WellFormed.{IsWellFormed}
use Rattle.flow_laws.specs.Resolutions.{Resolves}
use Rattle.flow_model.proofs.Lists.{mem_append_left, mem-append, mem_by_halves, each_to, each_member, each_from_members}
use Rattle.flow_model.proofs.MadeLists.{same_order, order_member, begins_front}
use Rattle.flow_laws.proofs.TraceLeaves.{leaf_of_trace, leaf_in_trace}
use Rattle.flow_laws.proofs.ResolutionsLemmas.{mem-resolutions, choice_free_resolution}
use Rattle.flow_laws.proofs.OptionsLemmas.{option_trace_is_good}
use Rattle.flow_fold_laws.specs.FoldedFollowing.{OrdersUnfold, SameCanTake, SameCanDoAside, SameSpared, CanStillGo, FoldedOrdersMayFollow}
use Rattle.flow_fold_laws.proofs.UnfoldedOptions.{folded_option_is_ordered, folded_option_of, unfolding_is_option, trace_of_unfolding, folded_option_trace_is_good}
use Rattle.flow_fold_laws.proofs.FoldedRunsLemmas.{unfolding_of_trace, folded_fronts_are_ready, run_extends_in}
use Rattle.flow_fold_laws.proofs.AvoidingTraces.{Lacks, trace_avoids, avoiding_trace}
use Rattle.flow_fold_laws.proofs.AvoidedTogether.{avoid_less}

-- the option after the leaves, in some one of the options
abbrev FollowInSome : Schema → RunState → List ChoiceOption → List ℕ → List ℕ → Type 0
FollowInSome w s os first list = (o : ChoiceOption) × (o ∈ os) × ((order : List ℕ) → IsOrderOf order list → MayFollow w s o (first ++ order))

-- an order of a list holds no other leaves
in_list : (journal first order list : List ℕ) → IsOrderOf order list → (n : ℕ) → n ∈ (journal ++ (first ++ order)) → n ∈ (journal ++ (first ++ list))
in_list journal first order list p n m = mem_by_halves n journal (first ++ list) (λ k. k)
    (λ k. mem_by_halves n first list (λ j. j) (order_member n order list p) (mem-append n first order k)) (mem-append n journal (first ++ order) m)

-- a banned leaf
abbrev IsBanned : RunState → ℕ → Type 0
IsBanned s n = (ban : ℕ × ℕ) × (ban ∈ s.bans) × (n ≡ ban.1)

lacks_banned : (s : RunState) (t : List ℕ) → Each (λ ban. ¬ (ban.1 ∈ t)) s.bans → Lacks t (IsBanned s)
lacks_banned s t none n m (ban, k, e) = each_member (λ ban. ¬ (ban.1 ∈ t)) s.bans none ban k (subst (λ z. z ∈ t) e m)

-- one order is enough to find the unfolding in which all of them follow: it holds just the leaves of that one's execution
follow_unfolds : (apart : ℕ → Bool) (w : Schema) → IsWellFormed w → KeepsNamedApart apart w → (s : RunState) (first list : List ℕ) →
    FollowInSome w s (folded_options_by apart w) first list → FollowInSome w s (options w) first list
follow_unfolds apart w f keeps s first list (o, m, follow) =
    let (t, (trace, order), (good, kept, none), begins) = follow list (same_order list) in
    let (u, r, in_u) = unfolding_of_trace o.resolution t trace in
    in_unfolding t (trace, order) none begins u r in_u
  where
    in_unfolding : (t : List ℕ) → OptionTrace o t → Each (λ ban. ¬ (ban.1 ∈ t)) s.bans → Begins t (s.journal ++ (first ++ list)) →
        (u : Process) → Resolves o.resolution u → Trace u t → FollowInSome w s (options w) first list
    in_unfolding t (trace, order) none (rest, e) u r in_u =
        let v : ChoiceOption = record { resolution = u; order = o.order } in
        let is_option = unfolding_is_option apart w keeps o v m (mem-resolutions o.resolution u r, refl) in (
          v,
          is_option,
          λ p is.
              let (t', trace', free', begins') = follow p is in
              let next = s.journal ++ (first ++ p) in
              let ordered = folded_option_is_ordered apart w f o m in
              let ready = folded_fronts_are_ready o.resolution o.order ordered t' next trace'.0 trace'.1 begins' in
              let fits = λ (n : ℕ) (l : n ∈ leaves o.resolution) (k : n ∈ next). leaf_of_trace u t in_u n
              (subst (λ x. n ∈ x) (sym e) (mem_append_left n (s.journal ++ (first ++ list)) rest (in_list s.journal first p list is n k))) in
              let (x, in_x, stands, goes_on) = run_extends_in o.resolution u o.order ordered r (t, trace, order) next fits ready in (
                x,
                (in_x, stands),
                (
                  option_trace_is_good w f x v is_option (in_x, stands),
                  begins_front x s.journal (first ++ p) goes_on,
                  each_to (λ ban. ¬ (ban.1 ∈ t)) (λ ban. ¬ (ban.1 ∈ x)) s.bans
                      (λ ban lacks i. lacks (leaf_in_trace u (choice_free_resolution o.resolution u r) t in_u ban.1 (leaf_of_trace u x in_x ban.1 i))) none,
                ),
                goes_on,
              ),
        )

pub orders_unfold : OrdersUnfold
orders_unfold apart w f keeps s first list = (
  follow_unfolds apart w f keeps s first list,
  λ (u, m, follow).
      let (o, i, unfolds) = folded_option_of apart w keeps u m in (
        o,
        i,
        λ p is.
            let (t, trace, free, begins) = follow p is in
            (t, trace_of_unfolding o u t unfolds trace, free, begins),
      ),
)

pub same_can_take : SameCanTake
same_can_take w f s n =
    let same = orders_unfold (is_named w) w f (λ k h. h) s [] (current_leaves s ++ n ∷ []) in
    (λ (event, free, some). (event, free, same.0 some), λ (event, free, some). (event, free, same.1 some))

pub same_can_do_aside : SameCanDoAside
same_can_do_aside w f s n =
    let same = orders_unfold (is_named w) w f (λ k h. h) s (n ∷ []) (current_leaves s) in
    (λ (other, some). (other, same.0 some), λ (other, some). (other, same.1 some))

pub same_spared : SameSpared
same_spared apart w f keeps s before claim =
    let same = orders_unfold apart w f keeps s [] (before ++ claim.leaf ∷ []) in
    (λ (current, some). (current, same.1 some), λ (current, some). (current, same.0 some))

-- the option can go on where one order may follow
still_goes : (apart : ℕ → Bool) (w : Schema) → IsWellFormed w → (s : RunState) (o : ChoiceOption) → o ∈ folded_options_by apart w →
    (next : List ℕ) → MayFollow w s o next → CanStillGo s o next
still_goes apart w f s o m next (t, (trace, order), (good, kept, none), begins) = record {
  has_trace = (t, (trace, order));
  avoids = trace_avoids o.resolution o.order (folded_option_is_ordered apart w f o m) t (s.journal ++ next) trace begins (IsBanned s) (lacks_banned s t none);
}

pub folded_orders_may_follow : FoldedOrdersMayFollow
folded_orders_may_follow apart w f keeps s o m first list =
    let ordered = folded_option_is_ordered apart w f o m in (
      λ follow. (
        still_goes apart w f s o m (first ++ list) (follow list (same_order list)),
        λ p is. let (t, trace, free, begins) = follow p is in
            folded_fronts_are_ready o.resolution o.order ordered t (s.journal ++ (first ++ p)) trace.0 trace.1 begins,
      ),
      λ (go, ready) p is.
          let next = s.journal ++ (first ++ p) in
          let avoids = avoid_less o.resolution (λ n. n ∈ (s.journal ++ (first ++ list))) (λ n. n ∈ next) (IsBanned s) (IsBanned s)
          (λ n l. in_list s.journal first p list is n) (λ n l b. b) go.avoids in
          let (sample, trace) = go.has_trace in
          let (t, in_q, stands, begins, lacks) = avoiding_trace o.resolution o.order ordered (sample, trace.0, trace.1) next (ready p is) (IsBanned s) avoids in (
            t,
            (in_q, stands),
            (
              folded_option_trace_is_good apart w f keeps t o m (in_q, stands),
              begins_front t s.journal (first ++ p) begins,
              each_from_members (λ ban. ¬ (ban.1 ∈ t)) s.bans (λ ban k i. lacks ban.1 i (ban, k, refl)),
            ),
            begins,
          ),
    )
