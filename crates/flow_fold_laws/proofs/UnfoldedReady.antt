-- A leaf may come next in a folded goal exactly where it may in an unfolding that has it and the done leaves.
use Rattle.std.proofs.Common.{ℕ, List, [], refl, sym, subst, inl, inr, ⊎_elim}
use Rattle.flow_model.specs.Lists.{◌∈◌, AreDistinct}
use Rattle.flow_model.specs.Process.{Process, Empty, Task, Sequence, Parallel, Choice, Isolated, leaves}
use Rattle.flow_model.specs.Trace.{Blocks, both_end}
use Rattle.flow_model.specs.Ready.{InSequence, isolated_parts, IsReady}
use Rattle.flow_model.specs.FoldedReady.{IsBegun, IsFinished, IsClosedOff, IsItsTurn, IsFoldedReady}
use Rattle.flow_model.proofs.Lists.{mem_append_left, mem_append_right, mem-append, mem_by_halves}
use Rattle.flow_laws.proofs.GoalParts.{part_within, before_whole_part}
use Rattle.flow_fold_laws.proofs.TakenSides.{Takes, empty, task, sequence, parallel, left, right, isolated}

-- the leaf that is closed off is one of the goal's
pub closed_leaf : (q : Process) (D : ℕ → Type 0) (n : ℕ) → IsClosedOff q D n → n ∈ leaves q
closed_leaf (Sequence a b) D n c = mem_by_halves n (leaves a) (leaves b) (closed_leaf a D n) (closed_leaf b D n) c
closed_leaf (Parallel a b) D n c = mem_by_halves n (leaves a) (leaves b) (closed_leaf a D n) (closed_leaf b D n) c
closed_leaf (Choice a b) D n (inl c) = mem_by_halves n (leaves a) (leaves b) (λ h. h.0) (λ h. h.0) c
closed_leaf (Choice a b) D n (inr c) = mem_by_halves n (leaves a) (leaves b) (closed_leaf a D n) (closed_leaf b D n) c
closed_leaf (Isolated a) D n c = closed_leaf a D n c
closed_leaf leaf D n c = absurd c

-- a goal that is finished with no leaf done may be executed with no block
pub nothing_finished : (g : Process) (D : ℕ → Type 0) → ¬ (IsBegun g D) → IsFinished g D → Blocks g []
nothing_finished Empty D none f = refl
nothing_finished (Task n) D none f = absurd (none (n, inl refl, f))
nothing_finished (Sequence a b) D none (f, h) = (
  [],
  [],
  nothing_finished a D (λ (n, m, d). none (n, mem_append_left n (leaves a) (leaves b) m, d)) f,
  nothing_finished b D (λ (n, m, d). none (n, mem_append_right n (leaves a) (leaves b) m, d)) h,
  refl,
)
nothing_finished (Parallel a b) D none (f, h) = (
  [],
  [],
  nothing_finished a D (λ (n, m, d). none (n, mem_append_left n (leaves a) (leaves b) m, d)) f,
  nothing_finished b D (λ (n, m, d). none (n, mem_append_right n (leaves a) (leaves b) m, d)) h,
  both_end,
)
nothing_finished (Choice a b) D none (inl f) = inl (nothing_finished a D (λ (n, m, d). none (n, mem_append_left n (leaves a) (leaves b) m, d)) f)
nothing_finished (Choice a b) D none (inr f) = inr (nothing_finished b D (λ (n, m, d). none (n, mem_append_right n (leaves a) (leaves b) m, d)) f)
nothing_finished (Isolated a) D none f = ([], nothing_finished a D none f, refl)

-- it may be the turn of each leaf that the goal lacks
turn_of_other : (g : Process) (D : ℕ → Type 0) (n : ℕ) → ¬ (n ∈ leaves g) → IsItsTurn g D n
turn_of_other (Sequence a b) D n lacks = (
  λ m. absurd (lacks (mem_append_right n (leaves a) (leaves b) m)),
  turn_of_other a D n (λ m. lacks (mem_append_left n (leaves a) (leaves b) m)),
  turn_of_other b D n (λ m. lacks (mem_append_right n (leaves a) (leaves b) m)),
)
turn_of_other (Parallel a b) D n lacks = (
  turn_of_other a D n (λ m. lacks (mem_append_left n (leaves a) (leaves b) m)),
  turn_of_other b D n (λ m. lacks (mem_append_right n (leaves a) (leaves b) m)),
)
turn_of_other (Choice a b) D n lacks = (
  turn_of_other a D n (λ m. lacks (mem_append_left n (leaves a) (leaves b) m)),
  turn_of_other b D n (λ m. lacks (mem_append_right n (leaves a) (leaves b) m)),
)
turn_of_other (Isolated a) D n lacks = turn_of_other a D n lacks
turn_of_other leaf D n lacks = tt

module _ {D : ℕ → Type 0} where
  -- Its leaves

  pub leaf_of : {q u : Process} → Takes D q u → (n : ℕ) → n ∈ leaves u → n ∈ leaves q
  leaf_of empty n m = m
  leaf_of task n m = m
  leaf_of (sequence {a} {b} {x} {y} apart h k) n m = mem_by_halves n (leaves a) (leaves b) (leaf_of h n) (leaf_of k n) (mem-append n (leaves x) (leaves y) m)
  leaf_of (parallel {a} {b} {x} {y} apart h k) n m = mem_by_halves n (leaves a) (leaves b) (leaf_of h n) (leaf_of k n) (mem-append n (leaves x) (leaves y) m)
  leaf_of (left {a} {b} apart busy none h) n m = mem_append_left n (leaves a) (leaves b) (leaf_of h n m)
  leaf_of (right {a} {b} apart busy none h) n m = mem_append_right n (leaves a) (leaves b) (leaf_of h n m)
  leaf_of (isolated h) n m = m

  -- each done leaf of the goal is one of the unfolding
  pub done_leaf : {q u : Process} → Takes D q u → (n : ℕ) → n ∈ leaves q → D n → n ∈ leaves u
  done_leaf empty n m e = m
  done_leaf task n m e = m
  done_leaf (sequence {a} {b} {x} {y} apart h k) n m e =
      mem_by_halves n (leaves x) (leaves y) (λ i. done_leaf h n i e) (λ i. done_leaf k n i e) (mem-append n (leaves a) (leaves b) m)
  done_leaf (parallel {a} {b} {x} {y} apart h k) n m e =
      mem_by_halves n (leaves x) (leaves y) (λ i. done_leaf h n i e) (λ i. done_leaf k n i e) (mem-append n (leaves a) (leaves b) m)
  done_leaf (left {a} {b} apart busy none h) n m e = ⊎_elim (λ i. done_leaf h n i e) (λ i. absurd (none (n, i, e))) (mem-append n (leaves a) (leaves b) m)
  done_leaf (right {a} {b} apart busy none h) n m e = ⊎_elim (λ i. absurd (none (n, i, e))) (λ i. done_leaf h n i e) (mem-append n (leaves a) (leaves b) m)
  done_leaf (isolated h) n m e = m

  -- no leaf of it is closed off
  not_closed_off : {q u : Process} → Takes D q u → (n : ℕ) → n ∈ leaves u → ¬ (IsClosedOff q D n)
  not_closed_off empty n m c = c
  not_closed_off task n m c = c
  not_closed_off (sequence {a} {b} {x} {y} apart h k) n m c = ⊎_elim
      (λ i. ⊎_elim (not_closed_off h n i) (λ c. apart n (leaf_of h n i) (closed_leaf b D n c)) c)
      (λ i. ⊎_elim (λ c. apart n (closed_leaf a D n c) (leaf_of k n i)) (not_closed_off k n i) c) (mem-append n (leaves x) (leaves y) m)
  not_closed_off (parallel {a} {b} {x} {y} apart h k) n m c = ⊎_elim
      (λ i. ⊎_elim (not_closed_off h n i) (λ c. apart n (leaf_of h n i) (closed_leaf b D n c)) c)
      (λ i. ⊎_elim (λ c. apart n (closed_leaf a D n c) (leaf_of k n i)) (not_closed_off k n i) c) (mem-append n (leaves x) (leaves y) m)
  not_closed_off (left {a} {b} apart busy none h) n m c = ⊎_elim
      (⊎_elim (λ c. none c.1) (λ c. apart n (leaf_of h n m) c.0))
      (⊎_elim (not_closed_off h n m) (λ c. apart n (leaf_of h n m) (closed_leaf b D n c))) c
  not_closed_off (right {a} {b} apart busy none h) n m c = ⊎_elim
      (⊎_elim (λ c. apart n c.0 (leaf_of h n m)) (λ c. none c.1))
      (⊎_elim (λ c. apart n (closed_leaf a D n c) (leaf_of h n m)) (not_closed_off h n m)) c
  not_closed_off (isolated h) n m c = not_closed_off h n m c

  -- Its end

  pub finished_all : {q u : Process} → Takes D q u → IsFinished q D → (n : ℕ) → n ∈ leaves u → D n
  finished_all empty f n m = absurd m
  finished_all task f n m = ⊎_elim (λ e. subst D (sym e) f) absurd m
  finished_all (sequence {x = x} {y = y} apart h k) f n m = ⊎_elim (finished_all h f.0 n) (finished_all k f.1 n) (mem-append n (leaves x) (leaves y) m)
  finished_all (parallel {x = x} {y = y} apart h k) f n m = ⊎_elim (finished_all h f.0 n) (finished_all k f.1 n) (mem-append n (leaves x) (leaves y) m)
  finished_all (left {a} {b} apart busy none h) f n m = ⊎_elim (λ f. finished_all h f n m) (λ f. absurd (busy (nothing_finished b D none f))) f
  finished_all (right {a} {b} apart busy none h) f n m = ⊎_elim (λ f. absurd (busy (nothing_finished a D none f))) (λ f. finished_all h f n m) f
  finished_all (isolated h) f n m = finished_all h f n m

  pub all_finished : {q u : Process} → Takes D q u → ((n : ℕ) → n ∈ leaves u → D n) → IsFinished q D
  all_finished empty f = tt
  all_finished (task {n}) f = f n (inl refl)
  all_finished (sequence {x = x} {y = y} apart h k) f =
      (all_finished h (λ n m. f n (mem_append_left n (leaves x) (leaves y) m)), all_finished k (λ n m. f n (mem_append_right n (leaves x) (leaves y) m)))
  all_finished (parallel {x = x} {y = y} apart h k) f =
      (all_finished h (λ n m. f n (mem_append_left n (leaves x) (leaves y) m)), all_finished k (λ n m. f n (mem_append_right n (leaves x) (leaves y) m)))
  all_finished (left apart busy none h) f = inl (all_finished h f)
  all_finished (right apart busy none h) f = inr (all_finished h f)
  all_finished (isolated h) f = all_finished h f

  -- Whose turn it is

  turn_unfolds : {q u : Process} → Takes D q u → (n : ℕ) → IsItsTurn q D n → (z : ℕ) → InSequence u z n → D z
  turn_unfolds empty n t z s = absurd s
  turn_unfolds task n t z s = absurd s
  turn_unfolds (sequence apart h k) n (first, t, r) z s = ⊎_elim
      (⊎_elim (λ both. finished_all h (first (leaf_of k n both.1)) z both.0) (turn_unfolds h n t z)) (turn_unfolds k n r z) s
  turn_unfolds (parallel apart h k) n (t, r) z s = ⊎_elim (turn_unfolds h n t z) (turn_unfolds k n r z) s
  turn_unfolds (left apart busy none h) n (t, r) z s = turn_unfolds h n t z s
  turn_unfolds (right apart busy none h) n (t, r) z s = turn_unfolds h n r z s
  turn_unfolds (isolated h) n t z s = turn_unfolds h n t z s

  turn_folds : {q u : Process} → Takes D q u → (n : ℕ) → n ∈ leaves u → ((z : ℕ) → InSequence u z n → D z) → IsItsTurn q D n
  turn_folds empty n m f = tt
  turn_folds task n m f = tt
  turn_folds (sequence {a} {b} {x} {y} apart h k) n m f = ⊎_elim
      (λ i. (
        λ j. absurd (apart n (leaf_of h n i) j),
        turn_folds h n i (λ z s. f z (inl (inr s))),
        turn_of_other b D n (apart n (leaf_of h n i)),
      ))
      (λ i. (
        λ j. all_finished h (λ z l. f z (inl (inl (l, i)))),
        turn_of_other a D n (λ j. apart n j (leaf_of k n i)),
        turn_folds k n i (λ z s. f z (inr s)),
      )) (mem-append n (leaves x) (leaves y) m)
  turn_folds (parallel {a} {b} {x} {y} apart h k) n m f = ⊎_elim
      (λ i. (turn_folds h n i (λ z s. f z (inl s)), turn_of_other b D n (apart n (leaf_of h n i))))
      (λ i. (turn_of_other a D n (λ j. apart n j (leaf_of k n i)), turn_folds k n i (λ z s. f z (inr s)))) (mem-append n (leaves x) (leaves y) m)
  turn_folds (left {a} {b} apart busy none h) n m f = (turn_folds h n m f, turn_of_other b D n (apart n (leaf_of h n m)))
  turn_folds (right {a} {b} apart busy none h) n m f = (turn_of_other a D n (λ j. apart n j (leaf_of h n m)), turn_folds h n m f)
  turn_folds (isolated h) n m f = turn_folds h n m f

  -- Its parts

  -- a part of it is one of the goal, and no choice stands there
  part_folds : {q u : Process} → Takes D q u → (part : Process) → part ∈ isolated_parts u → (part ∈ isolated_parts q) × Takes D part part
  part_folds empty part m = absurd m
  part_folds task part m = absurd m
  part_folds (sequence {a} {b} {x} {y} apart h k) part m = ⊎_elim
      (λ i. let (j, t) = part_folds h part i in (mem_append_left part (isolated_parts a) (isolated_parts b) j, t))
      (λ i. let (j, t) = part_folds k part i in (mem_append_right part (isolated_parts a) (isolated_parts b) j, t)) (mem-append part (isolated_parts x) (isolated_parts y) m)
  part_folds (parallel {a} {b} {x} {y} apart h k) part m = ⊎_elim
      (λ i. let (j, t) = part_folds h part i in (mem_append_left part (isolated_parts a) (isolated_parts b) j, t))
      (λ i. let (j, t) = part_folds k part i in (mem_append_right part (isolated_parts a) (isolated_parts b) j, t)) (mem-append part (isolated_parts x) (isolated_parts y) m)
  part_folds (left {a} {b} apart busy none h) part m = let (j, t) = part_folds h part m in (mem_append_left part (isolated_parts a) (isolated_parts b) j, t)
  part_folds (right {a} {b} apart busy none h) part m = let (j, t) = part_folds h part m in (mem_append_right part (isolated_parts a) (isolated_parts b) j, t)
  part_folds (isolated h) part (inl e) = (inl e, subst (λ g. Takes D g g) (sym e) h)
  part_folds (isolated h) part (inr m) = let (j, t) = part_folds h part m in (inr j, t)

  -- a part of the goal that has a leaf in common with it is one of it
  part_unfolds : {q u : Process} → Takes D q u → (part : Process) → part ∈ isolated_parts q → (n : ℕ) → n ∈ leaves part → n ∈ leaves u → part ∈ isolated_parts u
  part_unfolds empty part m n k l = m
  part_unfolds task part m n k l = m
  part_unfolds (sequence {a} {b} {x} {y} apart h k) part m n i l = ⊎_elim
      (λ c. ⊎_elim
      (λ j. mem_append_left part (isolated_parts x) (isolated_parts y) (part_unfolds h part c n i j))
      (λ j. absurd (apart n (part_within a part n c i) (leaf_of k n j))) (mem-append n (leaves x) (leaves y) l))
      (λ c. ⊎_elim
      (λ j. absurd (apart n (leaf_of h n j) (part_within b part n c i)))
      (λ j. mem_append_right part (isolated_parts x) (isolated_parts y) (part_unfolds k part c n i j)) (mem-append n (leaves x) (leaves y) l))
      (mem-append part (isolated_parts a) (isolated_parts b) m)
  part_unfolds (parallel {a} {b} {x} {y} apart h k) part m n i l = ⊎_elim
      (λ c. ⊎_elim
      (λ j. mem_append_left part (isolated_parts x) (isolated_parts y) (part_unfolds h part c n i j))
      (λ j. absurd (apart n (part_within a part n c i) (leaf_of k n j))) (mem-append n (leaves x) (leaves y) l))
      (λ c. ⊎_elim
      (λ j. absurd (apart n (leaf_of h n j) (part_within b part n c i)))
      (λ j. mem_append_right part (isolated_parts x) (isolated_parts y) (part_unfolds k part c n i j)) (mem-append n (leaves x) (leaves y) l))
      (mem-append part (isolated_parts a) (isolated_parts b) m)
  part_unfolds (left {a} {b} apart busy none h) part m n i l = ⊎_elim
      (λ c. part_unfolds h part c n i l) (λ c. absurd (apart n (leaf_of h n l) (part_within b part n c i))) (mem-append part (isolated_parts a) (isolated_parts b) m)
  part_unfolds (right {a} {b} apart busy none h) part m n i l = ⊎_elim
      (λ c. absurd (apart n (part_within a part n c i) (leaf_of h n l))) (λ c. part_unfolds h part c n i l) (mem-append part (isolated_parts a) (isolated_parts b) m)
  part_unfolds (isolated h) part m n i l = m

  -- Whether a leaf of it may come next

  pub ready_unfolds : {q u : Process} → Takes D q u → AreDistinct (leaves u) → (pairs : List (ℕ × ℕ)) (n : ℕ) → n ∈ leaves u →
      IsFoldedReady q pairs D n → IsReady u pairs D n
  ready_unfolds {u = u} h d pairs n l r = record {
    leaf = l;
    not_done = r.not_done;
    before = λ x. ⊎_elim (turn_unfolds h n r.turn x) (r.before x);
    outside = λ part m out x y i e j. let (k, t) = part_folds h part m in finished_all t (r.outside part k out (x, i, e)) y j;
    begins = λ part m i none x y out j. ⊎_elim
        (λ s. turn_unfolds h n r.turn x (before_whole_part u d part m x y n out j i s))
        (r.begins part (part_folds h part m).0 i (λ (z, k, e). none z k e) x y out j);
  }

  pub ready_folds : {q u : Process} → Takes D q u → (pairs : List (ℕ × ℕ)) (n : ℕ) → IsReady u pairs D n → IsFoldedReady q pairs D n
  ready_folds {q} h pairs n r = record {
    leaf = leaf_of h n r.leaf;
    not_done = r.not_done;
    not_closed = not_closed_off h n r.leaf;
    turn = turn_folds h n r.leaf (λ z s. r.before z (inl s));
    before = λ x k. r.before x (inr k);
    outside = λ part m out (x, i, e).
        let k = part_unfolds h part m x i (done_leaf h x (part_within q part x m i) e) in
        all_finished (part_folds h part k).1 (λ y j. r.outside part k out x y i e j);
    begins = λ part m i none x y out j k.
        r.begins part (part_unfolds h part m n i r.leaf) i (λ z c e. none (z, c, e)) x y out j (inr k);
  }
