-- Folding where an execution may hold an event twice: a constraint looks only at leaves outside
-- choices, so whether an execution is good, and in order, does not depend on the sides taken at
-- choices that are not begun.
use Rattle.std.proofs.Common.{◌≡◌, ◌≢◌, ℕ, Bool, true, false, List, [], ◌∷◌, ◌++◌, length, Some, refl, sym, ◌∙◌, subst, inl, inr, ⊎_elim, ◌⊎◌, ◌↔◌, true≢false}
use Rattle.flow_model.specs.declared.labels.Label.{Label}
use Rattle.flow_model.specs.Lists.{◌∈◌, Each, AreDistinct, Begins, StandsBefore, AreInOrder, IsOrderOf}
use Rattle.flow_model.specs.Process.{Process, Sequence, Parallel, Choice, Isolated, leaves, IsChoiceFree}
use Rattle.flow_model.specs.Trace.{Trace}
use Rattle.flow_model.specs.Facts.{event_at, events_of}
use Rattle.flow_model.specs.Constraint.{Constraint, Always, Impossible, Must, Never, Order, Not, And, Or, HappenInOrder, Meets, all_of}
use Rattle.flow_model.specs.Ways.{normal_form, leaf_of_event}
use Rattle.flow_model.specs.Schema.{Schema, IsGood}
use Rattle.flow_model.specs.Resolution.{ChoiceOption, options}
use Rattle.flow_model.specs.Folding.{named_events, is_named, fixed_leaves, folded_options_by, KeepsNamedApart}
use Rattle.flow_model.specs.Run.{RunState, current_leaves, MayFollow}
use Rattle.flow_model.proofs.Lists.{mem_append_left, mem_append_right, mem-append, mem_by_halves, mem_with, each_to, each_member, each_from_members}
use Rattle.flow_model.proofs.MadeLists.{distinct-numbers_from, same_order, order_member, begins_front, none_passes, of_filter_map, mem-filter_map, before-filter_map, of_before-filter_map}
use Rattle.flow_laws.specs.Resolutions.{Resolves}
use Rattle.flow_laws.proofs.ResolutionsLemmas.{resolves_of, mem-resolutions, choice_free_resolution, goal_trace}
use Rattle.flow_laws.proofs.FoldingLemmas.{FoldsTo, folds_to, may_stay, is_folded, distinct-folded_leaves}
use Rattle.flow_laws.proofs.WaysLemmas.{each_pair, leaf_of_event_is, same_event, test_of_event}
use Rattle.flow_fold_laws.proofs.NamedEvents.{named_leaf}
use Rattle.flow_laws.proofs.TraceLeaves.{leaf_of_trace, leaf_in_trace}
use Rattle.flow_laws.proofs.OptionsLemmas.{all_of_is}
use Rattle.flow_fold_laws.specs.Unfolding.{IsFoldedOrdered}
use Rattle.flow_fold_laws.proofs.Unfoldings.{folds_to_one, resolves_on}
use Rattle.flow_fold_laws.proofs.UnfoldedOptions.{folded_option_parts, folded_option_of, unfolding_is_option, trace_of_unfolding}
use Rattle.flow_fold_laws.proofs.OutsideChoices.{outside_none}
use Rattle.flow_fold_laws.proofs.TakenSides.{Fits, takes_of}
use Rattle.flow_fold_laws.proofs.FoldedRunsLemmas.{unfolding_of_trace}
use Rattle.flow_run_laws.specs.NumberedFolds.{IsLabelled, AllOptionsAreUnfoldings, AllUnfoldingsAreOfOne, AllFoldedOptionsAreOrdered, AllOrdersUnfold, AllTakenAlike, AllDoneAlike, AllSparedAlike}
use Rattle.flow_run_laws.proofs.OtherSides.{GivesWay, member_stays, member_stood, order_stays, order_stood, front_stays, trace_gives_way}

-- What a constraint looks at

-- two lists of events have the same of those named, in the same order
record AreAlike (named : List ℕ) (a b : List ℕ) : Type 0 where
  there : (e : ℕ) → e ∈ named → (e ∈ a) ↔ (e ∈ b)
  order : (e f : ℕ) → e ∈ named → f ∈ named → StandsBefore e f a ↔ StandsBefore e f b

alike_less : (some all a b : List ℕ) → ((e : ℕ) → e ∈ some → e ∈ all) → AreAlike all a b → AreAlike some a b
alike_less some all a b less h = record { there = λ e m. h.there e (less e m); order = λ e f m k. h.order e f (less e m) (less f k) }

order_alike : (es a b : List ℕ) → AreAlike es a b → HappenInOrder es a ↔ HappenInOrder es b
order_alike [] a b h = (λ k. k, λ k. k)
order_alike (e ∷ []) a b h = h.there e (inl refl)
order_alike (e ∷ f ∷ es) a b h =
    let first = h.order e f (inl refl) (inr (inl refl)) in
    let rest = order_alike (f ∷ es) a b (alike_less (f ∷ es) (e ∷ f ∷ es) a b (λ x. inr) h) in
    (λ (k, l). (first.0 k, rest.0 l), λ (k, l). (first.1 k, rest.1 l))

meets_alike : (c : Constraint) (a b : List ℕ) → AreAlike (named_events c) a b → Meets c a ↔ Meets c b
meets_alike Always a b h = (λ k. k, λ k. k)
meets_alike Impossible a b h = (λ k. k, λ k. k)
meets_alike (Must e) a b h = h.there e (inl refl)
meets_alike (Never e) a b h = (λ k m. k ((h.there e (inl refl)).1 m), λ k m. k ((h.there e (inl refl)).0 m))
meets_alike (Order es) a b h = order_alike es a b h
meets_alike (Not c) a b h = let same = meets_alike c a b h in (λ k m. k (same.1 m), λ k m. k (same.0 m))
meets_alike (And c d) a b h =
    let left = meets_alike c a b (alike_less (named_events c) (named_events c ++ named_events d) a b (λ e. mem_append_left e (named_events c) (named_events d)) h) in
    let right = meets_alike d a b (alike_less (named_events d) (named_events c ++ named_events d) a b (λ e. mem_append_right e (named_events c) (named_events d)) h) in
    (λ (k, l). (left.0 k, right.0 l), λ (k, l). (left.1 k, right.1 l))
meets_alike (Or c d) a b h =
    let left = meets_alike c a b (alike_less (named_events c) (named_events c ++ named_events d) a b (λ e. mem_append_left e (named_events c) (named_events d)) h) in
    let right = meets_alike d a b (alike_less (named_events d) (named_events c ++ named_events d) a b (λ e. mem_append_right e (named_events c) (named_events d)) h) in
    (⊎_elim (λ k. inl (left.0 k)) (λ k. inr (right.0 k)), ⊎_elim (λ k. inl (left.1 k)) (λ k. inr (right.1 k)))

-- where no leaf of a named event gives way, the events are alike
events_alike : (labels : List Label) (named : List ℕ) (Other : ℕ → Type 0) (t s : List ℕ) → GivesWay Other t s →
    ((n e : ℕ) → e ∈ named → event_at labels n ≡ Some e → ¬ (Other n)) → AreAlike named (events_of labels t) (events_of labels s)
events_alike labels named Other t s g apart = record {
  there = λ e m. (
    λ k. let (n, i, at) = of_filter_map (event_at labels) e t k in mem-filter_map (event_at labels) n e s (member_stays Other n (apart n e m at) g i) at,
    λ k. let (n, i, at) = of_filter_map (event_at labels) e s k in mem-filter_map (event_at labels) n e t (member_stood Other n (apart n e m at) g i) at,
  );
  order = λ e f m k. (
    λ h. let (x, (y, i, a, b)) = of_before-filter_map (event_at labels) e f t h in
        before-filter_map (event_at labels) x y e f s (order_stays Other x y (apart x e m a) (apart y f k b) g i) a b,
    λ h. let (x, (y, i, a, b)) = of_before-filter_map (event_at labels) e f s h in
        before-filter_map (event_at labels) x y e f t (order_stood Other x y (apart x e m a) (apart y f k b) g i) a b,
  );
}

-- A leaf in a choice that stays is not kept apart

fixed_where_free : (q : Process) → IsChoiceFree q → (n : ℕ) → n ∈ leaves q → n ∈ fixed_leaves q
fixed_where_free q free n m = subst (λ p. n ∈ leaves p) (sym (outside_none q free)) m

fixed_in_half : (apart : ℕ → Bool) (a b : Process) (n : ℕ) → ((n ∈ leaves a) → (n ∈ fixed_leaves a) ⊎ (apart n ≡ false)) →
    ((n ∈ leaves b) → (n ∈ fixed_leaves b) ⊎ (apart n ≡ false)) → n ∈ (leaves a ++ leaves b) → (n ∈ (fixed_leaves a ++ fixed_leaves b)) ⊎ (apart n ≡ false)
fixed_in_half apart a b n left right m = ⊎_elim
    (λ k. ⊎_elim (λ f. inl (mem_append_left n (fixed_leaves a) (fixed_leaves b) f)) inr (left k))
    (λ k. ⊎_elim (λ f. inl (mem_append_right n (fixed_leaves a) (fixed_leaves b) f)) inr (right k))
    (mem-append n (leaves a) (leaves b) m)

fixed_or_loose : (apart : ℕ → Bool) (g q : Process) → FoldsTo apart g q → (n : ℕ) → n ∈ leaves q → (n ∈ fixed_leaves q) ⊎ (apart n ≡ false)
fixed_or_loose apart (Sequence a b) q (x, y, hx, hy, e) n = rw e (fixed_in_half apart x y n (fixed_or_loose apart a x hx n) (fixed_or_loose apart b y hy n))
fixed_or_loose apart (Parallel a b) q (x, y, hx, hy, e) n = rw e (fixed_in_half apart x y n (fixed_or_loose apart a x hx n) (fixed_or_loose apart b y hy n))
fixed_or_loose apart (Choice a b) q (inl (stays, e)) n = rw e (λ m. inr (none_passes apart (leaves a ++ leaves b) (may_stay apart a b stays).none_apart n m))
fixed_or_loose apart (Choice a b) q (inr (goes, h)) n = ⊎_elim (λ k. fixed_or_loose apart a q k n) (λ k. fixed_or_loose apart b q k n) h
fixed_or_loose apart (Isolated a) q (x, h, e) n = rw e (λ m. inl (fixed_where_free x (choice_free_resolution a x h) n m))
fixed_or_loose apart leaf q e n = rw e inl

-- What a folded option is

pub distinct_labelled : (w : Schema) → IsLabelled w → AreDistinct (leaves w.goal)
distinct_labelled w l = subst AreDistinct (sym l) (distinct-numbers_from 0 (length w.labels))

pub all_folded_options_are_ordered : AllFoldedOptionsAreOrdered
all_folded_options_are_ordered apart w l o m =
    let (mq, mw) = folded_option_parts apart w o m in
    let h = folds_to apart w.goal o.resolution mq in
    let fixed = fixed_leaves o.resolution in
    let leaf = leaf_of_event w.labels fixed in
    record {
      folded = is_folded apart w.goal o.resolution h;
      distinct = distinct-folded_leaves apart w.goal o.resolution h (distinct_labelled w l);
      of_fixed = each_pair (λ pair. (pair.0 ∈ fixed) × (pair.1 ∈ fixed)) leaf
          (λ a b x y d i j. ((leaf_of_event_is w.labels fixed a x i).0, (leaf_of_event_is w.labels fixed b y j).0))
          (normal_form (all_of w.rules) true) o.order mw;
      different = each_pair (λ pair. pair.0 ≢ pair.1) leaf (λ a b x y d i j e. d (same_event w.labels fixed a b x y i j e))
          (normal_form (all_of w.rules) true) o.order mw;
    }

pub all_options_are_unfoldings : AllOptionsAreUnfoldings
all_options_are_unfoldings apart w keeps u = (folded_option_of apart w keeps u, λ (o, m, h). unfolding_is_option apart w keeps o u m h)

pub all_unfoldings_are_of_one : AllUnfoldingsAreOfOne
all_unfoldings_are_of_one apart w l o p u mo mp (ro, eo) (rp, ep) =
    let (qo, _) = folded_option_parts apart w o mo in
    let (qp, _) = folded_option_parts apart w p mp in
    let goal : o.resolution ≡ p.resolution = folds_to_one apart w.goal o.resolution p.resolution u.resolution (distinct_labelled w l)
    (folds_to apart w.goal o.resolution qo) (folds_to apart w.goal p.resolution qp)
    (resolves_of o.resolution u.resolution ro) (resolves_of p.resolution u.resolution rp) in
    let order : o.order ≡ p.order = sym eo ∙ ep in
    λ i. record { resolution = goal i; order = order i }

-- What may follow a journal

-- each member of a list stands in each order of it
order_has : {A : Type 0} (x : A) (order list : List A) → IsOrderOf order list → x ∈ list → x ∈ order
order_has x [] list o m = subst (λ l. x ∈ l) o m
order_has x (y ∷ order) list (a, b, e, o) m = ⊎_elim inl (λ k. inr (order_has x order (a ++ b) o k)) (mem_with x y a b (subst (λ l. x ∈ l) e m))

-- a leaf that may give way: it stands in a choice that stays, and is not to come
record IsLoose (q : Process) (next : List ℕ) (n : ℕ) : Type 0 where
  of_goal : n ∈ leaves q
  not_fixed : ¬ (n ∈ fixed_leaves q)
  not_next : ¬ (n ∈ next)

-- an execution in an unfolding of the folded option, and one of it that goes on with the same
-- leaves in another order
module _ (apart : ℕ → Bool) (w : Schema) (l : IsLabelled w) (keeps : KeepsNamedApart apart w) (o : ChoiceOption) (m : o ∈ folded_options_by apart w) where
  ordered : IsFoldedOrdered o.resolution o.order
  ordered = all_folded_options_are_ordered apart w l o m

  folds : FoldsTo apart w.goal o.resolution
  folds = folds_to apart w.goal o.resolution (folded_option_parts apart w o m).0

  -- no leaf of a named event is loose
  not_loose : (next : List ℕ) (n e : ℕ) → e ∈ named_events (all_of w.rules) → event_at w.labels n ≡ Some e → ¬ (IsLoose o.resolution next n)
  not_loose next n e named at loose = ⊎_elim loose.not_fixed
      (λ f. true≢false (sym (keeps n (named_leaf (all_of w.rules) w.labels e n named (test_of_event e (event_at w.labels n) at))) ∙ f))
      (fixed_or_loose apart w.goal o.resolution folds n loose.of_goal)

  in_unfolding : (next : List ℕ) (u v : Process) → Resolves o.resolution u → Resolves o.resolution v → Fits (λ n. n ∈ next) o.resolution u → Fits (λ n. n ∈ next) o.resolution v →
      (t : List ℕ) → Trace v t → AreInOrder o.order t → IsGood w t →
      (s : List ℕ) × Trace u s × AreInOrder o.order s × IsGood w s
      × ((front : List ℕ) → ((n : ℕ) → n ∈ front → n ∈ next) → Begins t front → Begins s front)
  in_unfolding next u v ru rv fits_u fits_v t in_v order good =
      let takes_u = takes_of (λ n. n ∈ next) o.resolution u ordered.folded ordered.distinct ru fits_u in
      let takes_v = takes_of (λ n. n ∈ next) o.resolution v ordered.folded ordered.distinct rv fits_v in
      let (s, in_u, g) = trace_gives_way (λ n. n ∈ next) (IsLoose o.resolution next) takes_u takes_v
      (λ n of_goal not_fixed not_next. record { of_goal = of_goal; not_fixed = not_fixed; not_next = not_next }) t in_v in
      let alike = events_alike w.labels (named_events (all_of w.rules)) (IsLoose o.resolution next) t s g (not_loose next) in
      let fixed_stays = λ (n : ℕ) (f : n ∈ fixed_leaves o.resolution) (loose : IsLoose o.resolution next n). loose.not_fixed f in (
        s,
        in_u,
        each_from_members (λ pair. StandsBefore pair.0 pair.1 s) o.order (λ pair k.
            let (f, h) = each_member (λ pair. (pair.0 ∈ fixed_leaves o.resolution) × (pair.1 ∈ fixed_leaves o.resolution)) o.order ordered.of_fixed pair k in
            order_stays (IsLoose o.resolution next) pair.0 pair.1 (fixed_stays pair.0 f) (fixed_stays pair.1 h) g
            (each_member (λ pair. StandsBefore pair.0 pair.1 t) o.order order pair k)),
        (
          goal_trace w.goal u (mem-resolutions w.goal u (resolves_on apart w.goal o.resolution u folds ru)) s in_u,
          (all_of_is w.rules (events_of w.labels s)).0
              ((meets_alike (all_of w.rules) (events_of w.labels t) (events_of w.labels s) alike).0 ((all_of_is w.rules (events_of w.labels t)).1 good.1)),
        ),
        λ front of_next (rest, e). front_stays (IsLoose o.resolution next) front rest s (λ n k loose. loose.not_next (of_next n k))
            (subst (λ l. GivesWay (IsLoose o.resolution next) l s) e g),
      )

-- the option after the leaves, in some one of the options
abbrev FollowInSome : Schema → RunState → List ChoiceOption → List ℕ → List ℕ → Type 0
FollowInSome w s os first list = (o : ChoiceOption) × (o ∈ os) × ((order : List ℕ) → IsOrderOf order list → MayFollow w s o (first ++ order))

-- an order of a list behind the same leaves has the same members
to_list : (journal first order list : List ℕ) → IsOrderOf order list → (n : ℕ) → n ∈ (journal ++ (first ++ order)) → n ∈ (journal ++ (first ++ list))
to_list journal first order list p n m = mem_by_halves n journal (first ++ list) (λ k. k)
    (λ k. mem_by_halves n first list (λ j. j) (order_member n order list p) (mem-append n first order k)) (mem-append n journal (first ++ order) m)

of_list : (journal first order list : List ℕ) → IsOrderOf order list → (n : ℕ) → n ∈ (journal ++ (first ++ list)) → n ∈ (journal ++ (first ++ order))
of_list journal first order list p n m = mem_by_halves n journal (first ++ order) (λ k. k)
    (λ k. mem_by_halves n first order (λ j. j) (order_has n order list p) (mem-append n first list k)) (mem-append n journal (first ++ list) m)

-- the leaves that begin an execution of an unfolding are leaves of it
fits_front : (q u : Process) (t front : List ℕ) → Trace u t → Begins t front → Fits (λ n. n ∈ front) q u
fits_front q u t front in_u (rest, e) n _ k = leaf_of_trace u t in_u n (subst (λ l. n ∈ l) (sym e) (mem_append_left n front rest k))

-- one order is enough to find the unfolding in which all of them follow
follow_in_one : (apart : ℕ → Bool) (w : Schema) → IsLabelled w → KeepsNamedApart apart w → (s : RunState) (first list : List ℕ) →
    FollowInSome w s (folded_options_by apart w) first list → FollowInSome w s (options w) first list
follow_in_one apart w l keeps s first list (o, m, follow) =
    let (t, (trace, order), (good, kept, none), begins) = follow list (same_order list) in
    let (u, r, in_u) = unfolding_of_trace o.resolution t trace in
    found t none begins u r in_u
  where
    found : (t : List ℕ) → Each (λ ban. ¬ (ban.1 ∈ t)) s.bans → Begins t (s.journal ++ (first ++ list)) → (u : Process) → Resolves o.resolution u → Trace u t →
        FollowInSome w s (options w) first list
    found t none begins u r in_u =
        let v : ChoiceOption = record { resolution = u; order = o.order } in
        let next = s.journal ++ (first ++ list) in (
          v,
          unfolding_is_option apart w keeps o v m (mem-resolutions o.resolution u r, refl),
          λ p is.
              let (t', (trace', order'), (good', kept', none'), begins') = follow p is in
              let (u', r', in_u') = unfolding_of_trace o.resolution t' trace' in
              let fits = λ (n : ℕ) (k : n ∈ leaves o.resolution) (i : n ∈ next).
              fits_front o.resolution u' t' (s.journal ++ (first ++ p)) in_u' begins' n k (of_list s.journal first p list is n i) in
              let (x, in_x, stands, good_x, keeps_front) =
              in_unfolding apart w l keeps o m next u u' r r' (fits_front o.resolution u t next in_u begins) fits t' in_u' order' good' in
              let goes_on = keeps_front (s.journal ++ (first ++ p)) (to_list s.journal first p list is) begins' in (
                x,
                (in_x, stands),
                (
                  good_x,
                  begins_front x s.journal (first ++ p) goes_on,
                  each_to (λ ban. ¬ (ban.1 ∈ t)) (λ ban. ¬ (ban.1 ∈ x)) s.bans
                      (λ ban lacks i. lacks (leaf_in_trace u (choice_free_resolution o.resolution u r) t in_u ban.1 (leaf_of_trace u x in_x ban.1 i))) none,
                ),
                goes_on,
              ),
        )

pub all_orders_unfold : AllOrdersUnfold
all_orders_unfold apart w l keeps s first list = (
  follow_in_one apart w l keeps s first list,
  λ (u, m, follow).
      let (o, i, unfolds) = folded_option_of apart w keeps u m in
      (o, i, λ p is. let (t, trace, free, begins) = follow p is in (t, trace_of_unfolding o u t unfolds trace, free, begins)),
)

pub all_taken_alike : AllTakenAlike
all_taken_alike w l s n =
    let same = all_orders_unfold (is_named w) w l (λ k h. h) s [] (current_leaves s ++ n ∷ []) in
    (λ (event, free, some). (event, free, same.0 some), λ (event, free, some). (event, free, same.1 some))

pub all_done_alike : AllDoneAlike
all_done_alike w l s n =
    let same = all_orders_unfold (is_named w) w l (λ k h. h) s (n ∷ []) (current_leaves s) in
    (λ (other, some). (other, same.0 some), λ (other, some). (other, same.1 some))

pub all_spared_alike : AllSparedAlike
all_spared_alike apart w l keeps s before claim =
    let same = all_orders_unfold apart w l keeps s [] (before ++ claim.leaf ∷ []) in
    (λ (current, some). (current, same.1 some), λ (current, some). (current, same.0 some))
