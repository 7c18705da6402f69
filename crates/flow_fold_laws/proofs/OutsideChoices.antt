-- A goal without its choices: what it keeps of the goal, and that both have executions with the same pairs in order.
use Rattle.std.proofs.Common.{◌≡◌, ◌≢◌, ℕ, List, [], ◌++◌, ◌⊎◌, ◌↔◌, refl, sym, ap, ap₂, ◌∙◌, subst, inl, inr, ⊎_elim}
use Rattle.flow_model.specs.Lists.{◌∈◌, AreDistinct, AreInOrder, StandsBefore, joined}
use Rattle.flow_model.specs.Process.{Process, Sequence, Parallel, Choice, Isolated, leaves, IsChoiceFree}
use Rattle.flow_model.specs.Trace.{Blocks, Trace}
use Rattle.flow_model.specs.Ready.{InSequence}
use Rattle.flow_model.specs.Folding.{outside_choices, fixed_leaves, IsFolded}
use Rattle.flow_model.proofs.Lists.{mem_append_left, mem_append_right, mem-append, distinct_parts, distinct-append, each_to, each_from_members, each_member, before_or_after, not_both_ways}
use Rattle.flow_laws.specs.WellFormed.{IsOrdered}
use Rattle.flow_laws.specs.Resolutions.{Resolves}
use Rattle.flow_laws.proofs.ResolutionsLemmas.{resolves_of, blocks_of_a_resolution, goal_trace}
use Rattle.flow_fold_laws.proofs.Unfoldings.{choice_free_resolves, fixed_in_goal}
use Rattle.flow_laws.proofs.GoalParts.{sequence_first, sequence_second}
use Rattle.flow_laws.proofs.ThinnedLists.{Thins, thins_none, thins_all, thins-append, thins-joined, before_in_thins, thinned, filled}
use Rattle.flow_laws.proofs.TraceLeaves.{some_blocks, leaf_in_trace, distinct_trace}
use Rattle.flow_laws.proofs.CircleOrTrace.{circles_exclude_traces, trace_or_circle}
use Rattle.flow_fold_laws.specs.Unfolding.{IsFoldedOrdered}
use Rattle.flow_fold_laws.specs.FoldedRuns.{OutsideKeepsSequence, FoldedCirclesExcludeTraces, FoldedTraceOrCircle}

-- What is kept

pub outside_choice_free : (q : Process) → IsChoiceFree (outside_choices q)
outside_choice_free (Sequence a b) = (outside_choice_free a, outside_choice_free b)
outside_choice_free (Parallel a b) = (outside_choice_free a, outside_choice_free b)
outside_choice_free (Isolated a) = outside_choice_free a
outside_choice_free other = tt

-- where there is no choice, it is the goal
pub outside_none : (q : Process) → IsChoiceFree q → outside_choices q ≡ q
outside_none (Sequence a b) (f, g) = ap₂ Sequence (outside_none a f) (outside_none b g)
outside_none (Parallel a b) (f, g) = ap₂ Parallel (outside_none a f) (outside_none b g)
outside_none (Choice a b) f = absurd f
outside_none (Isolated a) f = ap Isolated (outside_none a f)
outside_none leaf f = refl

fixed_halves : (a b : Process) → (AreDistinct (leaves a) → AreDistinct (fixed_leaves a)) → (AreDistinct (leaves b) → AreDistinct (fixed_leaves b)) →
    AreDistinct (leaves a ++ leaves b) → AreDistinct (fixed_leaves a ++ fixed_leaves b)
fixed_halves a b in_a in_b d =
    let (da, db, apart) = distinct_parts (leaves a) (leaves b) d in
    distinct-append (fixed_leaves a) (fixed_leaves b) (in_a da) (in_b db) (λ n m k. apart n (fixed_in_goal a n m) (fixed_in_goal b n k))

pub fixed_distinct : (q : Process) → AreDistinct (leaves q) → AreDistinct (fixed_leaves q)
fixed_distinct (Sequence a b) d = fixed_halves a b (fixed_distinct a) (fixed_distinct b) d
fixed_distinct (Parallel a b) d = fixed_halves a b (fixed_distinct a) (fixed_distinct b) d
fixed_distinct (Choice a b) d = tt
fixed_distinct (Isolated a) d = fixed_distinct a d
fixed_distinct leaf d = d

-- a fixed leaf of the whole that is a leaf of one half is a fixed leaf of it
pub fixed_left : (a b : Process) (n : ℕ) → AreDistinct (leaves a ++ leaves b) → n ∈ (fixed_leaves a ++ fixed_leaves b) → n ∈ leaves a → n ∈ fixed_leaves a
fixed_left a b n d m l =
    let (da, db, apart) = distinct_parts (leaves a) (leaves b) d in
    ⊎_elim (λ k. k) (λ k. absurd (apart n l (fixed_in_goal b n k))) (mem-append n (fixed_leaves a) (fixed_leaves b) m)

pub fixed_right : (a b : Process) (n : ℕ) → AreDistinct (leaves a ++ leaves b) → n ∈ (fixed_leaves a ++ fixed_leaves b) → n ∈ leaves b → n ∈ fixed_leaves b
fixed_right a b n d m l =
    let (da, db, apart) = distinct_parts (leaves a) (leaves b) d in
    ⊎_elim (λ k. absurd (apart n (fixed_in_goal a n k) l)) (λ k. k) (mem-append n (fixed_leaves a) (fixed_leaves b) m)

-- both leaves are outside choices, and the first stands in sequence before the second
abbrev IsFixedSequence : Process → ℕ → ℕ → Type 0
IsFixedSequence q x y = (x ∈ fixed_leaves q) × (y ∈ fixed_leaves q) × InSequence q x y

-- in one of two halves
halves_in_sequence : (a b : Process) (x y : ℕ) → AreDistinct (leaves a ++ leaves b) →
    InSequence (outside_choices a) x y ↔ IsFixedSequence a x y → InSequence (outside_choices b) x y ↔ IsFixedSequence b x y →
    (InSequence (outside_choices a) x y ⊎ InSequence (outside_choices b) x y)
    ↔ ((x ∈ (fixed_leaves a ++ fixed_leaves b)) × (y ∈ (fixed_leaves a ++ fixed_leaves b)) × (InSequence a x y ⊎ InSequence b x y))
halves_in_sequence a b x y d left right = (
  ⊎_elim
      (λ h. let (m, k, s) = left.0 h in (mem_append_left x (fixed_leaves a) (fixed_leaves b) m, mem_append_left y (fixed_leaves a) (fixed_leaves b) k, inl s))
      (λ h. let (m, k, s) = right.0 h in (mem_append_right x (fixed_leaves a) (fixed_leaves b) m, mem_append_right y (fixed_leaves a) (fixed_leaves b) k, inr s)),
  λ (m, k, h). ⊎_elim
      (λ s. inl (left.1 (fixed_left a b x d m (sequence_first a x y s), fixed_left a b y d k (sequence_second a x y s), s)))
      (λ s. inr (right.1 (fixed_right a b x d m (sequence_first b x y s), fixed_right a b y d k (sequence_second b x y s), s))) h,
)

pub outside_keeps_sequence : OutsideKeepsSequence
outside_keeps_sequence (Sequence a b) d x y =
    let (da, db, _) = distinct_parts (leaves a) (leaves b) d in
    let halves = halves_in_sequence a b x y d (outside_keeps_sequence a da x y) (outside_keeps_sequence b db x y) in (
      ⊎_elim
          (⊎_elim
          (λ (m, k). (mem_append_left x (fixed_leaves a) (fixed_leaves b) m, mem_append_right y (fixed_leaves a) (fixed_leaves b) k, inl (inl (fixed_in_goal a x m, fixed_in_goal b y k))))
          (λ h. let (m, k, s) = halves.0 (inl h) in (m, k, ⊎_elim (λ l. inl (inr l)) inr s)))
          (λ h. let (m, k, s) = halves.0 (inr h) in (m, k, ⊎_elim (λ l. inl (inr l)) inr s)),
      λ (m, k, h). ⊎_elim
          (⊎_elim
          (λ (l, r). inl (inl (fixed_left a b x d m l, fixed_right a b y d k r)))
          (λ s. ⊎_elim (λ l. inl (inr l)) inr (halves.1 (m, k, inl s))))
          (λ s. ⊎_elim (λ l. inl (inr l)) inr (halves.1 (m, k, inr s))) h,
    )
outside_keeps_sequence (Parallel a b) d x y =
    let (da, db, _) = distinct_parts (leaves a) (leaves b) d in
    halves_in_sequence a b x y d (outside_keeps_sequence a da x y) (outside_keeps_sequence b db x y)
outside_keeps_sequence (Choice a b) d x y = (λ h. absurd h, λ h. absurd h.0)
outside_keeps_sequence (Isolated a) d x y = outside_keeps_sequence a d x y
outside_keeps_sequence leaf d x y = (λ h. absurd h, λ h. absurd h.2)

-- what an option asks of its resolution and pairs
pub outside_ordered : (q : Process) (pairs : List (ℕ × ℕ)) → IsFoldedOrdered q pairs → IsOrdered (outside_choices q) pairs
outside_ordered q pairs w = record {
  choice_free = outside_choice_free q;
  distinct = fixed_distinct q w.distinct;
  of_leaves = w.of_fixed;
  different = w.different;
}

-- Executions

-- of blocks of the goal, those outside choices
abbrev HasOutside : Process → List (List ℕ) → Type 0
HasOutside q bs = (cs : List (List ℕ)) × Blocks (outside_choices q) cs × Thins cs bs

leave_choices_out : (q : Process) → IsFolded q → (bs : List (List ℕ)) → Blocks q bs → HasOutside q bs
leave_choices_out (Sequence a b) (f, g) bs (x, y, hx, hy, e) =
    let (u, hu, t) = leave_choices_out a f x hx in
    let (v, hv, r) = leave_choices_out b g y hy in
    (u ++ v, (u, v, hu, hv, refl), subst (Thins (u ++ v)) (sym e) (thins-append t r))
leave_choices_out (Parallel a b) (f, g) bs (x, y, hx, hy, s) =
    let (u, hu, t) = leave_choices_out a f x hx in
    let (v, hv, r) = leave_choices_out b g y hy in
    let (w, i, k) = thinned s t r in
    (w, (u, v, hu, hv, i), k)
leave_choices_out (Choice a b) f bs h = ([], refl, thins_none bs)
leave_choices_out (Isolated a) f bs h = (bs, subst (λ p. Blocks (Isolated p) bs) (sym (outside_none a f)) h, thins_all bs)
leave_choices_out leaf f bs h = (bs, h, thins_all bs)

-- and blocks outside choices, with some of the sides taken put in
abbrev HasWhole : Process → List (List ℕ) → Type 0
HasWhole u cs = (bs : List (List ℕ)) × Blocks u bs × Thins cs bs

put_sides_in : (q u : Process) → IsFolded q → Resolves q u → (cs : List (List ℕ)) → Blocks (outside_choices q) cs → HasWhole u cs
put_sides_in (Sequence a b) u (f, g) (p, q, r, s, i) cs (x, y, hx, hy, e) =
    let (v, hv, t) = put_sides_in a p f r x hx in
    let (w, hw, k) = put_sides_in b q g s y hy in
    rw i (v ++ w, (v, w, hv, hw, refl), subst (λ l. Thins l (v ++ w)) (sym e) (thins-append t k))
put_sides_in (Parallel a b) u (f, g) (p, q, r, s, i) cs (x, y, hx, hy, e) =
    let (v, hv, t) = put_sides_in a p f r x hx in
    let (w, hw, k) = put_sides_in b q g s y hy in
    let (z, j, l) = filled t k e in
    rw i (z, (v, w, hv, hw, j), l)
put_sides_in (Choice a b) u f r cs h =
    let (bs, k) = some_blocks u in (bs, k, subst (λ l. Thins l bs) (sym h) (thins_none bs))
put_sides_in (Isolated a) u f r cs h =
    (cs, subst (λ p. Blocks p cs) (ap Isolated (outside_none a f) ∙ sym (choice_free_resolves (Isolated a) u f r)) h, thins_all cs)
put_sides_in leaf u f r cs h = (cs, subst (λ p. Blocks p cs) (sym r) h, thins_all cs)

-- the goal or option has an execution with the pairs in order
abbrev pub HasTraceInOrder : Process → List (ℕ × ℕ) → Type 0
HasTraceInOrder q pairs = (t : List ℕ) × Trace q t × AreInOrder pairs t

pub outside_trace : (q : Process) (pairs : List (ℕ × ℕ)) → IsFoldedOrdered q pairs → HasTraceInOrder q pairs → HasTraceInOrder (outside_choices q) pairs
outside_trace q pairs w (t, (bs, h, e), order) =
    let (cs, k, thins) = leave_choices_out q w.folded bs h in
    let s = joined cs in
    let within : Thins s t = subst (Thins s) (sym e) (thins-joined thins) in
    let outside : Trace (outside_choices q) s = (cs, k, refl) in
    let ordered = outside_ordered q pairs w in (
      s,
      outside,
      each_from_members (λ pair. StandsBefore pair.0 pair.1 s) pairs (λ pair m.
          let (first, second) = each_member (λ p. (p.0 ∈ fixed_leaves q) × (p.1 ∈ fixed_leaves q)) pairs w.of_fixed pair m in
          let stands = λ (x : ℕ) (l : x ∈ fixed_leaves q). leaf_in_trace (outside_choices q) ordered.choice_free s outside x l in
          ⊎_elim (λ b. b)
          (λ b. absurd (not_both_ways pair.0 pair.1 t (distinct_trace q w.distinct t (bs, h, e))
          (each_member (λ p. StandsBefore p.0 p.1 t) pairs order pair m) (before_in_thins within pair.1 pair.0 b)))
          (before_or_after pair.0 pair.1 s (stands pair.0 first) (stands pair.1 second) (each_member (λ p. p.0 ≢ p.1) pairs w.different pair m))),
    )

-- then each unfolding has one
pub unfolding_trace : (q u : Process) (pairs : List (ℕ × ℕ)) → IsFolded q → Resolves q u → HasTraceInOrder (outside_choices q) pairs → HasTraceInOrder u pairs
unfolding_trace q u pairs f r (t, (cs, h, e), order) =
    let (bs, k, thins) = put_sides_in q u f r cs h in (
      joined bs,
      (bs, k, refl),
      each_to (λ pair. StandsBefore pair.0 pair.1 t) (λ pair. StandsBefore pair.0 pair.1 (joined bs)) pairs
          (λ pair b. before_in_thins (thins-joined thins) pair.0 pair.1 (subst (StandsBefore pair.0 pair.1) e b)) order,
    )

-- and the goal
whole_trace : (q : Process) (pairs : List (ℕ × ℕ)) → IsFolded q → HasTraceInOrder (outside_choices q) pairs → HasTraceInOrder q pairs
whole_trace q pairs f h =
    let (bs, blocks) = some_blocks q in
    let (u, m, _) = blocks_of_a_resolution q bs blocks in
    let (t, trace, order) = unfolding_trace q u pairs f (resolves_of q u m) h in
    (t, goal_trace q u m t trace, order)

-- Circles

pub folded_circles_exclude_traces : FoldedCirclesExcludeTraces
folded_circles_exclude_traces q pairs w circle c t h order =
    let (s, trace, stands) = outside_trace q pairs w (t, h, order) in
    circles_exclude_traces (outside_choices q) pairs (outside_ordered q pairs w) circle c s trace stands

pub folded_trace_or_circle : FoldedTraceOrCircle
folded_trace_or_circle q pairs w =
    ⊎_elim (λ trace. inl (whole_trace q pairs w.folded trace)) inr (trace_or_circle (outside_choices q) pairs (outside_ordered q pairs w))
