-- Executions that hold no banned leaf.
use Rattle.std.proofs.Common.{ℕ, List, refl, sym, subst, inl, inr, ⊎_elim}
use Rattle.flow_model.specs.Lists.{◌∈◌, AreInOrder, Begins}
use Rattle.flow_model.specs.Process.{Process, Empty, Task, Sequence, Parallel, Choice, Isolated, leaves}
use Rattle.flow_model.specs.Trace.{Trace}
use Rattle.flow_model.specs.FoldedReady.{IsFoldedRun}
use Rattle.flow_model.specs.FoldedRun.{CanAvoid}
use Rattle.flow_laws.specs.Resolutions.{Resolves}
use Rattle.flow_model.proofs.Lists.{only_one, mem_append_left, mem_append_right, mem-append, mem_by_halves, each_member, each_from_members}
use Rattle.flow_laws.proofs.TraceLeaves.{leaf_of_trace, leaf_in_trace}
use Rattle.flow_laws.proofs.ResolutionsLemmas.{choice_free_resolution}
use Rattle.flow_fold_laws.specs.Unfolding.{IsFoldedOrdered}
use Rattle.flow_fold_laws.specs.FoldedRows.{ExecutionsAvoid}
use Rattle.flow_fold_laws.proofs.TakenSides.{Takes, empty, task, sequence, parallel, left, right, isolated, Fits, takes_of}
use Rattle.flow_fold_laws.proofs.UnfoldedOptions.{folded_option_is_ordered}
use Rattle.flow_fold_laws.proofs.OutsideChoices.{HasTraceInOrder}
use Rattle.flow_fold_laws.proofs.FoldedRunsLemmas.{unfolding_of_trace, trace_folds, folded_fronts_are_ready, run_extends_in}

-- no leaf of the list is banned
abbrev pub Lacks : List ℕ → (ℕ → Type 0) → Type 0
Lacks list Banned = (n : ℕ) → n ∈ list → ¬ Banned n

-- what an unfolding lacks that has the begun leaves, the goal can avoid
avoids_as : {D : ℕ → Type 0} {q u : Process} → Takes D q u → (B : ℕ → Type 0) → Lacks (leaves u) B → CanAvoid q D B
avoids_as empty B lacks = tt
avoids_as (task {n}) B lacks = lacks n (inl refl)
avoids_as (sequence {x = x} {y = y} apart h k) B lacks = (
  avoids_as h B (λ n m. lacks n (mem_append_left n (leaves x) (leaves y) m)),
  avoids_as k B (λ n m. lacks n (mem_append_right n (leaves x) (leaves y) m)),
)
avoids_as (parallel {x = x} {y = y} apart h k) B lacks = (
  avoids_as h B (λ n m. lacks n (mem_append_left n (leaves x) (leaves y) m)),
  avoids_as k B (λ n m. lacks n (mem_append_right n (leaves x) (leaves y) m)),
)
avoids_as (left apart busy none h) B lacks = inl (avoids_as h B lacks, none)
avoids_as (right apart busy none h) B lacks = inr (avoids_as h B lacks, none)
avoids_as (isolated h) B lacks = avoids_as h B lacks

-- and what it can avoid, some unfolding lacks that has the begun leaves
unfolding_avoiding : (q : Process) (D B : ℕ → Type 0) → CanAvoid q D B → (u : Process) × Resolves q u × Fits D q u × Lacks (leaves u) B
unfolding_avoiding Empty D B h = (Empty, refl, λ n m e. m, λ n m. absurd m)
unfolding_avoiding (Task k) D B h = (Task k, refl, λ n m e. m, λ n m b. h (subst B (only_one n k m) b))
unfolding_avoiding (Sequence a b) D B (h, k) =
    let (x, r, f, l) = unfolding_avoiding a D B h in let (y, s, g, i) = unfolding_avoiding b D B k in (
      Sequence x y,
      (x, y, r, s, refl),
      λ n m e. mem_by_halves n (leaves x) (leaves y) (λ j. f n j e) (λ j. g n j e) (mem-append n (leaves a) (leaves b) m),
      λ n m. ⊎_elim (l n) (i n) (mem-append n (leaves x) (leaves y) m),
    )
unfolding_avoiding (Parallel a b) D B (h, k) =
    let (x, r, f, l) = unfolding_avoiding a D B h in let (y, s, g, i) = unfolding_avoiding b D B k in (
      Parallel x y,
      (x, y, r, s, refl),
      λ n m e. mem_by_halves n (leaves x) (leaves y) (λ j. f n j e) (λ j. g n j e) (mem-append n (leaves a) (leaves b) m),
      λ n m. ⊎_elim (l n) (i n) (mem-append n (leaves x) (leaves y) m),
    )
unfolding_avoiding (Choice a b) D B (inl (h, none)) =
    let (x, r, f, l) = unfolding_avoiding a D B h in
    (x, inl r, λ n m e. ⊎_elim (λ i. f n i e) (λ i. absurd (none (n, i, e))) (mem-append n (leaves a) (leaves b) m), l)
unfolding_avoiding (Choice a b) D B (inr (h, none)) =
    let (y, s, f, l) = unfolding_avoiding b D B h in
    (y, inr s, λ n m e. ⊎_elim (λ i. absurd (none (n, i, e))) (λ i. f n i e) (mem-append n (leaves a) (leaves b) m), l)
unfolding_avoiding (Isolated a) D B h = let (x, r, f, l) = unfolding_avoiding a D B h in (Isolated x, (x, r, refl), f, l)

module _ (q : Process) (pairs : List (ℕ × ℕ)) (w : IsFoldedOrdered q pairs) where
  -- what an execution lacks, the goal can avoid after each front of it
  pub trace_avoids : (t front : List ℕ) → Trace q t → Begins t front → (B : ℕ → Type 0) → Lacks t B → CanAvoid q (λ n. n ∈ front) B
  trace_avoids t front trace (rest, e) B lacks =
      let (u, r, in_u) = unfolding_of_trace q t trace in
      avoids_as (takes_of (λ n. n ∈ front) q u w.folded w.distinct r
      (λ n m k. leaf_of_trace u t in_u n (subst (λ l. n ∈ l) (sym e) (mem_append_left n front rest k)))) B
      (λ n l. lacks n (leaf_in_trace u (choice_free_resolution q u r) t in_u n l))

  -- where there is an execution, a ready run goes on to one without what can be avoided
  pub avoiding_trace : HasTraceInOrder q pairs → (front : List ℕ) → IsFoldedRun q pairs front → (B : ℕ → Type 0) → CanAvoid q (λ n. n ∈ front) B →
      (t : List ℕ) × Trace q t × AreInOrder pairs t × Begins t front × Lacks t B
  avoiding_trace some front run B avoids =
      let (u, r, fits, lacks) = unfolding_avoiding q (λ n. n ∈ front) B avoids in
      let (t, trace, order, begins) = run_extends_in q u pairs w r some front fits run in
      (t, trace_folds q u t r trace, order, begins, λ n m. lacks n (leaf_of_trace u t trace n m))

pub executions_avoid : ExecutionsAvoid
executions_avoid apart w f o m front banned =
    let ordered = folded_option_is_ordered apart w f o m in (
      λ (t, (trace, order), begins, none). (
        (t, (trace, order)),
        folded_fronts_are_ready o.resolution o.order ordered t front trace order begins,
        trace_avoids o.resolution o.order ordered t front trace begins (λ n. n ∈ banned) (λ n l b. each_member (λ k. ¬ (k ∈ t)) banned none n b l),
      ),
      λ ((s, (trace, order)), run, avoids).
          let (t, in_q, stands, begins, lacks) = avoiding_trace o.resolution o.order ordered (s, trace, order) front run (λ n. n ∈ banned) avoids in
          (t, (in_q, stands), begins, each_from_members (λ k. ¬ (k ∈ t)) banned (λ n b l. lacks n l b)),
    )
