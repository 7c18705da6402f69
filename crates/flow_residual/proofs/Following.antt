-- What may follow a journal, by the folded options that remain and by the workflow.
use Rattle.std.proofs.Common.{◌≡◌, ℕ, List, [], ◌∷◌, ◌++◌, ◌↔◌, refl, sym, subst, inl, inr, ⊎_elim}
use Rattle.flow_model.specs.Lists.{◌∈◌, IsOrderOf}
use Rattle.flow_model.specs.Schema.{Schema, IsGood}
use Rattle.flow_model.specs.Resolution.{ChoiceOption}
use Rattle.flow_model.specs.Ready.{DoneOr}
use Rattle.flow_model.specs.Folding.{folded_options, is_named}
use Rattle.flow_model.specs.FoldedReady.{IsFoldedRun}
use Rattle.flow_model.specs.Run.{RunState, MayAllFollow, MayFollowFirst}
use Rattle.flow_model.proofs.Lists.{each_member, each_from_members, mem-append, mem_append_left, mem_append_right, mem_by_halves}
use Rattle.flow_model.proofs.MadeLists.{mem-map, of_map, same_order}
use Rattle.flow_fold_laws.specs.FoldedFollowing.{CanStillGo}
use Rattle.flow_fold_laws.proofs.FoldedFollowingLemmas.{orders_unfold, folded_orders_may_follow}
use Rattle.flow_fold_laws.proofs.FoldedRunsLemmas.{folded_complete_runs_are_traces}
use Rattle.flow_fold_laws.proofs.AvoidingTraces.{executions_avoid}
use Rattle.flow_fold_laws.proofs.UnfoldedOptions.{folded_option_is_ordered, folded_option_of_good, folded_option_trace_is_good}
use Rattle.flow_plan.specs.Options.{HasExecution, AreJustThose}
use Rattle.flow_plan.proofs.KeptOptions.{kept_has}
use Rattle.flow_residual.specs.Remaining.{Remaining, IsOf, IsLive, IsAvoidable, StillAvoids, banned}
use Rattle.flow_residual.specs.Options.{SomeOption}
use Rattle.flow_residual.specs.Question.{TakesAll, TakesFirst, LeavesOut, IsWhole}
use Rattle.flow_residual.proofs.Avoiding.{avoid_as}
use Rattle.flow_residual.proofs.FoldedSteps.{run_after_journal}

-- ---- the options that have an execution

pub has_kept : (os kept : List ChoiceOption) → AreJustThose HasExecution os kept → (o : ChoiceOption) → o ∈ os → HasExecution o → o ∈ kept
has_kept [] kept h o m x = absurd m
has_kept (p ∷ os) kept (inl (g, (rest, e, s))) o (inl i) x = subst (λ (l : List ChoiceOption). o ∈ l) (sym e) (inl i)
has_kept (p ∷ os) kept (inl (g, (rest, e, s))) o (inr m) x = subst (λ (l : List ChoiceOption). o ∈ l) (sym e) (inr (has_kept os rest s o m x))
has_kept (p ∷ os) kept (inr (n, s)) o (inl i) x = absurd (n (subst HasExecution i x))
has_kept (p ∷ os) kept (inr (n, s)) o (inr m) x = has_kept os kept s o m x

-- ---- banned leaves

abbrev OfBan : List (ℕ × ℕ) → ℕ → Type 0
OfBan bans n = (ban : ℕ × ℕ) × (ban ∈ bans) × (n ≡ ban.1)

of_ban : (bans : List (ℕ × ℕ)) (n : ℕ) → n ∈ banned bans → OfBan bans n
of_ban bans n = of_map (λ ban. ban.1) n bans

to_banned : (bans : List (ℕ × ℕ)) (n : ℕ) → OfBan bans n → n ∈ banned bans
to_banned bans n (ban, m, e) = subst (λ z. z ∈ banned bans) (sym e) (mem-map (λ (ban : ℕ × ℕ). ban.1) ban bans m)

-- ---- in the words of a state

-- what remains where the journal and the bans are those of the state
abbrev at : RunState → List ChoiceOption → Remaining
at s os = record { options = os; journal = s.journal; bans = s.bans }

module _ (w : Schema) (s : RunState) (os : List ChoiceOption) (f : IsOf w s (at s os)) where
  to_option : (o : ChoiceOption) → o ∈ os → (o ∈ folded_options w) × HasExecution o
  to_option o m = kept_has (folded_options w) os f.options_are o m

  of_option : (o : ChoiceOption) → o ∈ folded_options w → HasExecution o → o ∈ os
  of_option o m x = has_kept (folded_options w) os f.options_are o m x

  -- the option can go on
  still_avoids : (o : ChoiceOption) (next : List ℕ) → CanStillGo s o next → StillAvoids (at s os) next o
  still_avoids o next go = avoid_as o.resolution (λ n. n ∈ (s.journal ++ next)) (DoneOr (λ n. n ∈ s.journal) next) (OfBan s.bans) (λ n. n ∈ banned s.bans)
      (λ n. mem_by_halves n s.journal next (λ m. m) (λ m. m)) (of_ban s.bans) go.avoids

  still_goes : (o : ChoiceOption) (next : List ℕ) → o ∈ os → StillAvoids (at s os) next o → CanStillGo s o next
  still_goes o next m avoids = record {
    has_trace = (to_option o m).1;
    avoids = avoid_as o.resolution (DoneOr (λ n. n ∈ s.journal) next) (λ n. n ∈ (s.journal ++ next)) (λ n. n ∈ banned s.bans) (OfBan s.bans)
        (λ n. mem-append n s.journal next) (to_banned s.bans) avoids;
  }

  live_of : (o : ChoiceOption) (next : List ℕ) → o ∈ os → StillAvoids (at s os) next o → IsFoldedRun o.resolution o.order (s.journal ++ next) → IsLive (at s os) o
  live_of o next m avoids run = record {
    among = m;
    avoids = avoid_as o.resolution (DoneOr (λ n. n ∈ s.journal) next) (λ n. n ∈ s.journal) (λ n. n ∈ banned s.bans) (λ n. n ∈ banned s.bans) (λ n. inl) (λ n b. b) avoids;
    journal_ready = ((run_after_journal o.resolution o.order s.journal next).0 run).0;
  }

  all_at : (list : List ℕ) → SomeOption (TakesAll (at s os) list) os ↔ MayAllFollow w s list
  all_at list = (
    λ (o, m, (live, all, still)). (orders_unfold (is_named w) w f.well_formed (λ k h. h) s [] list).0 (
      o,
      (to_option o m).0,
      (folded_orders_may_follow (is_named w) w f.well_formed (λ k h. h) s o (to_option o m).0 [] list).1
          (still_goes o list m still, λ order is. (run_after_journal o.resolution o.order s.journal order).1 (live.journal_ready, all order is)),
    ),
    λ may.
        let (o, there, follow) = (orders_unfold (is_named w) w f.well_formed (λ k h. h) s [] list).1 may in
        let (go, ready) = (folded_orders_may_follow (is_named w) w f.well_formed (λ k h. h) s o there [] list).0 follow in
        let m = of_option o there go.has_trace in
        let still = still_avoids o list go in (
          o,
          m,
          (live_of o list m still (ready list (same_order list)), λ order is. ((run_after_journal o.resolution o.order s.journal order).0 (ready order is)).1, still),
        ),
  )

  first_at : (first : ℕ) (list : List ℕ) → SomeOption (TakesFirst (at s os) first list) os ↔ MayFollowFirst w s first list
  first_at first list = (
    λ (o, m, (live, (ready, all), still)). (orders_unfold (is_named w) w f.well_formed (λ k h. h) s (first ∷ []) list).0 (
      o,
      (to_option o m).0,
      (folded_orders_may_follow (is_named w) w f.well_formed (λ k h. h) s o (to_option o m).0 (first ∷ []) list).1
          (still_goes o (first ∷ list) m still, λ order is. (run_after_journal o.resolution o.order s.journal (first ∷ order)).1 (live.journal_ready, (ready, all order is))),
    ),
    λ may.
        let (o, there, follow) = (orders_unfold (is_named w) w f.well_formed (λ k h. h) s (first ∷ []) list).1 may in
        let (go, ready) = (folded_orders_may_follow (is_named w) w f.well_formed (λ k h. h) s o there (first ∷ []) list).0 follow in
        let m = of_option o there go.has_trace in
        let still = still_avoids o (first ∷ list) go in
        let runs = λ (order : List ℕ) (is : IsOrderOf order list). ((run_after_journal o.resolution o.order s.journal (first ∷ order)).0 (ready order is)).1 in (
          o,
          m,
          (live_of o (first ∷ list) m still (ready list (same_order list)), ((runs list (same_order list)).0, λ order is. (runs order is).1), still),
        ),
  )

  -- an execution without the banned leaves and these
  without_at : (leaf : ℕ) → SomeOption (LeavesOut (at s os) (leaf ∷ [])) os ↔ IsAvoidable w s leaf
  without_at leaf = (
    λ (o, m, out).
        let (there, x) = to_option o m in
        let (t, trace, begins, none) = (executions_avoid (is_named w) w f.well_formed o there s.journal (banned s.bans ++ leaf ∷ [])).1 (x, out.journal_ready, out.avoids) in (
          t,
          (
            folded_option_trace_is_good (is_named w) w f.well_formed (λ k h. h) t o there trace,
            begins,
            each_from_members (λ ban. ¬ (ban.1 ∈ t)) s.bans (λ ban k. each_member (λ n. ¬ (n ∈ t)) (banned s.bans ++ leaf ∷ []) none ban.1
                (mem_append_left ban.1 (banned s.bans) (leaf ∷ []) (to_banned s.bans ban.1 (ban, k, refl)))),
          ),
          each_member (λ n. ¬ (n ∈ t)) (banned s.bans ++ leaf ∷ []) none leaf (mem_append_right leaf (banned s.bans) (leaf ∷ []) (inl refl)),
        ),
    λ (t, (good, begins, none), lacks).
        let (o, there, trace) = folded_option_of_good (is_named w) w f.well_formed (λ k h. h) t good in
        let (x, run, avoids) = (executions_avoid (is_named w) w f.well_formed o there s.journal (banned s.bans ++ leaf ∷ [])).0 (
          t,
          trace,
          begins,
          each_from_members (λ n. ¬ (n ∈ t)) (banned s.bans ++ leaf ∷ []) (λ n k there. ⊎_elim
              (λ b. let (ban, i, e) = of_ban s.bans n b in each_member (λ ban. ¬ (ban.1 ∈ t)) s.bans none ban i (subst (λ z. z ∈ t) e there))
              (λ last. ⊎_elim (λ e. lacks (subst (λ z. z ∈ t) e there)) (λ none. absurd none) last) (mem-append n (banned s.bans) (leaf ∷ []) k)),
        ) in
        let m = of_option o there x in
        (o, m, record { among = m; avoids = avoids; journal_ready = run }),
  )

  whole_at : SomeOption (IsWhole (at s os)) os ↔ IsGood w s.journal
  whole_at = (
    λ (o, m, whole).
        let there = (to_option o m).0 in
        folded_option_trace_is_good (is_named w) w f.well_formed (λ k h. h) s.journal o there
        ((folded_complete_runs_are_traces o.resolution o.order (folded_option_is_ordered (is_named w) w f.well_formed o there) s.journal).0 whole),
    λ good.
        let (o, there, trace) = folded_option_of_good (is_named w) w f.well_formed (λ k h. h) s.journal good in (
          o,
          of_option o there (s.journal, trace),
          (folded_complete_runs_are_traces o.resolution o.order (folded_option_is_ordered (is_named w) w f.well_formed o there) s.journal).1 trace,
        ),
  )

-- ---- of what remains

module _ (w : Schema) (s : RunState) (r : Remaining) (f : IsOf w s r) where
  as_state : at s r.options ≡ r
  as_state = λ i. record { options = r.options; journal = f.journal_is i; bans = f.bans_are i }

  of_state : IsOf w s (at s r.options)
  of_state = record { well_formed = f.well_formed; options_are = f.options_are; journal_is = refl; bans_are = refl }

  pub may_all_follow : (list : List ℕ) → SomeOption (TakesAll r list) r.options ↔ MayAllFollow w s list
  may_all_follow list = subst (λ (q : Remaining). SomeOption (TakesAll q list) r.options ↔ MayAllFollow w s list) as_state (all_at w s r.options of_state list)

  pub may_follow_first : (first : ℕ) (list : List ℕ) → SomeOption (TakesFirst r first list) r.options ↔ MayFollowFirst w s first list
  may_follow_first first list = subst (λ (q : Remaining). SomeOption (TakesFirst q first list) r.options ↔ MayFollowFirst w s first list) as_state (first_at w s r.options of_state first list)

  pub is_avoidable : (leaf : ℕ) → SomeOption (LeavesOut r (leaf ∷ [])) r.options ↔ IsAvoidable w s leaf
  is_avoidable leaf = subst (λ (q : Remaining). SomeOption (LeavesOut q (leaf ∷ [])) r.options ↔ IsAvoidable w s leaf) as_state (without_at w s r.options of_state leaf)

  pub is_good : SomeOption (IsWhole r) r.options ↔ IsGood w s.journal
  is_good = subst (λ (q : Remaining). SomeOption (IsWhole q) r.options ↔ IsGood w s.journal) as_state (whole_at w s r.options of_state)
