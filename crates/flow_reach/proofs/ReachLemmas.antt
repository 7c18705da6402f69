-- Some execution has a leaf exactly where some option can go on with it.
use Rattle.std.proofs.Common.{◌≡◌, ◌<◌, ◌↔◌, ◌⊎◌, ℕ, Bool, true, false, not, true≢false, IsTrue, List, [], refl, sym, subst, inl, inr, ⊎_elim, append-nil}
use Rattle.flow_model.specs.declared.limits.TheConstants.{MOST_LEAVES}
use Rattle.flow_model.specs.Lists.{◌∈◌, AreDistinct, AreInOrder, Begins, Each}
use Rattle.flow_model.specs.Process.{Process, Empty, Task, Sequence, Parallel, Choice, Isolated, leaves}
use Rattle.flow_model.specs.Resolution.{ChoiceOption}
use Rattle.flow_model.specs.Schema.{Schema}
use Rattle.flow_model.specs.Trace.{Trace}
use Rattle.flow_model.specs.Folding.{folded_options, is_named, IsFolded}
use Rattle.flow_model.specs.FoldedReady.{IsFoldedRun}
use Rattle.flow_model.specs.FoldedRun.{CanAvoid}
use Rattle.flow_model.proofs.Lists.{only_one, mem_append_left, mem-append, mem_by_halves, each_member, each_from_members}
use Rattle.flow_model.proofs.MadeLists.{mem-map}
use Rattle.flow_laws.specs.Resolutions.{Resolves}
use Rattle.flow_laws.specs.WellFormed.{IsWellFormed}
use Rattle.flow_laws.proofs.ResolutionsLemmas.{choice_free_resolution}
use Rattle.flow_laws.proofs.TraceLeaves.{leaf_of_trace, leaf_in_trace}
use Rattle.flow_fold_laws.specs.Unfolding.{IsFoldedOrdered}
use Rattle.flow_fold_laws.proofs.TakenSides.{Fits}
use Rattle.flow_fold_laws.proofs.AvoidedTogether.{avoid_less}
use Rattle.flow_fold_laws.proofs.AvoidingTraces.{Lacks, trace_avoids}
use Rattle.flow_fold_laws.proofs.FoldedRunsLemmas.{run_extends_in, trace_folds, folded_fronts_are_ready}
use Rattle.flow_fold_laws.proofs.OutsideChoices.{HasTraceInOrder}
use Rattle.flow_fold_laws.proofs.UnfoldedOptions.{folded_option_is_ordered, folded_option_of_good, folded_option_trace_is_good}
use Rattle.flow_plan.specs.Compilation.{AreShared}
use Rattle.flow_plan.specs.declared.fold_row.FoldRow.{FoldRow}
use Rattle.flow_plan.specs.FoldRows.{AreFoldRows}
use Rattle.flow_plan.specs.Options.{HasExecution, HasSmallLeaves, AreJustThose, option_of, options_of}
use Rattle.flow_plan.specs.Sampled.{Sampled}
use Rattle.flow_plan.proofs.KeptOptions.{kept_has}
use Rattle.flow_residual.specs.Options.{SomeOption}
use Rattle.flow_residual.specs.Telling.{AreServing}
use Rattle.flow_residual.proofs.Avoiding.{avoids_unless_not}
use Rattle.flow_residual.proofs.Following.{has_kept}
use Rattle.flow_residual.proofs.Starting.{serving_of}
use Rattle.flow_reach.specs.Reach.{HasAhead, MayStillCome}

-- what a goal can go on with and without, some unfolding of it has and lacks
unfolding_with : (q : Process) (D B : ℕ → Type 0) → CanAvoid q D B → (u : Process) × Resolves q u × Fits D q u × Lacks (leaves u) B
unfolding_with Empty D B h = (Empty, refl, λ n m e. m, λ n m. absurd m)
unfolding_with (Task k) D B h = (Task k, refl, λ n m e. m, λ n m b. h (subst B (only_one n k m) b))
unfolding_with (Sequence a b) D B (h, k) =
    let (x, r, f, l) = unfolding_with a D B h in let (y, s, g, i) = unfolding_with b D B k in (
      Sequence x y,
      (x, y, r, s, refl),
      λ n m e. mem_by_halves n (leaves x) (leaves y) (λ j. f n j e) (λ j. g n j e) (mem-append n (leaves a) (leaves b) m),
      λ n m. ⊎_elim (l n) (i n) (mem-append n (leaves x) (leaves y) m),
    )
unfolding_with (Parallel a b) D B (h, k) =
    let (x, r, f, l) = unfolding_with a D B h in let (y, s, g, i) = unfolding_with b D B k in (
      Parallel x y,
      (x, y, r, s, refl),
      λ n m e. mem_by_halves n (leaves x) (leaves y) (λ j. f n j e) (λ j. g n j e) (mem-append n (leaves a) (leaves b) m),
      λ n m. ⊎_elim (l n) (i n) (mem-append n (leaves x) (leaves y) m),
    )
unfolding_with (Choice a b) D B (inl (h, none)) =
    let (x, r, f, l) = unfolding_with a D B h in
    (x, inl r, λ n m e. ⊎_elim (λ i. f n i e) (λ i. absurd (none (n, i, e))) (mem-append n (leaves a) (leaves b) m), l)
unfolding_with (Choice a b) D B (inr (h, none)) =
    let (y, s, f, l) = unfolding_with b D B h in
    (y, inr s, λ n m e. ⊎_elim (λ i. absurd (none (n, i, e))) (λ i. f n i e) (mem-append n (leaves a) (leaves b) m), l)
unfolding_with (Isolated a) D B h = let (x, r, f, l) = unfolding_with a D B h in (Isolated x, (x, r, refl), f, l)

-- a goal that is not spoilt can go on
pub goes_on : (q : Process) → IsFolded q → AreDistinct (leaves q) → (begun out : ℕ → Bool) (spoilt : Bool) →
    IsTrue spoilt ↔ (¬ (CanAvoid q (λ n. IsTrue (begun n)) (λ n. IsTrue (out n)))) → IsTrue (not spoilt) ↔ CanAvoid q (λ n. IsTrue (begun n)) (λ n. IsTrue (out n))
goes_on q folded distinct begun out true says = (λ wrong. absurd (true≢false (sym wrong)), λ can. absurd (says.0 refl can))
goes_on q folded distinct begun out false says =
    (λ _. avoids_unless_not q folded distinct begun out (λ none. true≢false (sym (says.1 none))), λ can. refl)

-- what is done once the leaf is, besides the journal
abbrev pub With : List ℕ → ℕ → ℕ → Type 0
With journal leaf n = (n ∈ journal) ⊎ (n ≡ leaf)

-- an execution that goes on from the journal and has the leaf, and nothing that is out
abbrev pub GoesOn : Process → List (ℕ × ℕ) → List ℕ → ℕ → (ℕ → Type 0) → Type 0
GoesOn q pairs journal leaf Out = (t : List ℕ) × Trace q t × AreInOrder pairs t × Begins t journal × Lacks t Out × (leaf ∈ t)

module _ (q : Process) (pairs : List (ℕ × ℕ)) (ordered : IsFoldedOrdered q pairs) (journal : List ℕ) (leaf : ℕ) (Out : ℕ → Type 0) where
  trace_with : HasTraceInOrder q pairs → IsFoldedRun q pairs journal → leaf ∈ leaves q → CanAvoid q (With journal leaf) Out → GoesOn q pairs journal leaf Out
  trace_with some run has avoids =
      let (u, r, fits, lacks) = unfolding_with q (With journal leaf) Out avoids in
      let (t, trace, order, begins) = run_extends_in q u pairs ordered r some journal (λ n m k. fits n m (inl k)) run in (
        t,
        trace_folds q u t r trace,
        order,
        begins,
        λ n m. lacks n (leaf_of_trace u t trace n m),
        leaf_in_trace u (choice_free_resolution q u r) t trace leaf (fits leaf has (inr refl)),
      )

  with_trace : GoesOn q pairs journal leaf Out → IsFoldedRun q pairs journal × (leaf ∈ leaves q) × CanAvoid q (With journal leaf) Out
  with_trace (t, trace, order, begins, lacks, has) =
      let (rest, is) = begins in (
        folded_fronts_are_ready q pairs ordered t journal trace order begins,
        leaf_of_trace q t trace leaf has,
        avoid_less q (λ n. n ∈ t) (With journal leaf) Out Out
            (λ n m. ⊎_elim (λ k. subst (λ l. n ∈ l) (sym is) (mem_append_left n journal rest k)) (λ e. subst (λ x. x ∈ t) (sym e) has)) (λ n m b. b)
            (trace_avoids q pairs ordered t t trace ([], sym (append-nil t)) Out lacks),
      )

-- the set has the leaves with P for which there is room
abbrev pub HasRoomFor : (ℕ → Bool) → (ℕ → Type 0) → Type 0
HasRoomFor set P = (n : ℕ) → IsTrue (set n) ↔ ((n < MOST_LEAVES) × P n)

module _ (o : ChoiceOption) (small : HasSmallLeaves o) (done out : ℕ → Bool) (D B : ℕ → Type 0) (done_is : HasRoomFor done D) (out_is : HasRoomFor out B) where
  room : (n : ℕ) → n ∈ leaves o.resolution → n < MOST_LEAVES
  room n m = each_member (λ n. n < MOST_LEAVES) (leaves o.resolution) small n m

  of_sets : CanAvoid o.resolution (λ n. IsTrue (done n)) (λ n. IsTrue (out n)) → CanAvoid o.resolution D B
  of_sets = avoid_less o.resolution (λ n. IsTrue (done n)) D (λ n. IsTrue (out n)) B
      (λ n m d. (done_is n).1 (room n m, d)) (λ n m b. (out_is n).1 (room n m, b))

  to_sets : CanAvoid o.resolution D B → CanAvoid o.resolution (λ n. IsTrue (done n)) (λ n. IsTrue (out n))
  to_sets = avoid_less o.resolution D (λ n. IsTrue (done n)) B (λ n. IsTrue (out n)) (λ n m d. ((done_is n).0 d).1) (λ n m b. ((out_is n).0 b).1)

module _ (w : Schema) (f : IsWellFormed w) (os : List ChoiceOption) (kept : AreJustThose HasExecution (folded_options w) os) (small : Each HasSmallLeaves os)
    (journal without : List ℕ) (leaf : ℕ) (done out : ℕ → Bool) (done_is : HasRoomFor done (With journal leaf)) (out_is : HasRoomFor out (λ n. n ∈ without)) where
  fits : (o : ChoiceOption) → o ∈ os → HasSmallLeaves o
  fits o m = each_member HasSmallLeaves os small o m

  pub still_comes : SomeOption (HasAhead journal leaf done out) os ↔ MayStillCome w journal without leaf
  still_comes = (
    λ (o, m, ahead).
        let (there, (s, (trace_is, order_is))) = kept_has (folded_options w) os kept o m in
        let ordered = folded_option_is_ordered (is_named w) w f o there in
        let (t, trace, order, begins, lacks, has) = trace_with o.resolution o.order ordered journal leaf (λ n. n ∈ without) (s, trace_is, order_is) ahead.journal_ready ahead.has_leaf
        (of_sets o (fits o m) done out (With journal leaf) (λ n. n ∈ without) done_is out_is ahead.avoids) in (
          t,
          folded_option_trace_is_good (is_named w) w f (λ k h. h) t o there (trace, order),
          begins,
          each_from_members (λ n. ¬ (n ∈ t)) without (λ n b l. lacks n l b),
          has,
        ),
    λ (t, good, begins, none, has).
        let (o, there, (trace, order)) = folded_option_of_good (is_named w) w f (λ k h. h) t good in
        let ordered = folded_option_is_ordered (is_named w) w f o there in
        let m = has_kept (folded_options w) os kept o there (t, (trace, order)) in
        let (run, in_goal, avoids) = with_trace o.resolution o.order ordered journal leaf (λ n. n ∈ without)
        (t, trace, order, begins, (λ n l b. each_member (λ k. ¬ (k ∈ t)) without none n b l), has) in (
          o,
          m,
          record {
            has_leaf = in_goal;
            avoids = to_sets o (fits o m) done out (With journal leaf) (λ n. n ∈ without) done_is out_is avoids;
            journal_ready = run;
          },
        ),
  )

-- the set of the journal, and the leaf besides
pub with_room : (before after : ℕ → Bool) (journal : List ℕ) (leaf : ℕ) → HasRoomFor before (λ n. n ∈ journal) →
    ((n : ℕ) → IsTrue (after n) ↔ (IsTrue (before n) ⊎ ((n < MOST_LEAVES) × (n ≡ leaf)))) → HasRoomFor after (With journal leaf)
with_room before after journal leaf old new n = (
  λ yes. ⊎_elim (λ was. let (small, m) = (old n).0 was in (small, inl m)) (λ (small, is). (small, inr is)) ((new n).0 yes),
  λ (small, here). (new n).1 (⊎_elim (λ m. inl ((old n).1 (small, m))) (λ is. inr (small, is)) here),
)

-- ---- of one of the plans

pub served : (folds : List FoldRow) (plans : List Sampled) → AreShared folds plans → (s : Sampled) → s ∈ plans → AreFoldRows s.plan.process folds
served folds plans shared s there =
    each_member (AreServing folds) (options_of plans) (serving_of folds plans shared) (option_of s.plan) (mem-map (λ (t : Sampled). option_of t.plan) s plans there)

pub small_each : (plans : List Sampled) → Each HasSmallLeaves (options_of plans) → (s : Sampled) → s ∈ plans → Each (λ n. n < MOST_LEAVES) (leaves s.plan.process)
small_each plans small s there =
    each_member HasSmallLeaves (options_of plans) small (option_of s.plan) (mem-map (λ (t : Sampled). option_of t.plan) s plans there)
