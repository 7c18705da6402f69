-- A leaf may come next in a folded goal exactly where its row of leaves tells so.
use Rattle.std.proofs.Common.{ℕ, List, IsTrue, refl, subst, sym, inl, inr, ⊎_elim}
use Rattle.flow_model.specs.Lists.{◌∈◌, AreDistinct}
use Rattle.flow_model.specs.Process.{Process, Empty, Task, Sequence, Parallel, Choice, Isolated, leaves, IsChoiceFree}
use Rattle.flow_model.specs.Ready.{isolated_parts}
use Rattle.flow_model.specs.Folding.{IsFolded, fixed_leaves}
use Rattle.flow_model.specs.FoldedReady.{IsFinished, IsFoldedReady}
use Rattle.flow_model.proofs.Lists.{mem_append_left, mem_append_right, mem-append, distinct_parts, each_member}
use Rattle.flow_fold_laws.specs.Unfolding.{IsFoldedOrdered}
use Rattle.flow_fold_laws.specs.FoldedRows.{IsInFinishedChoice, IsSettled, IsReadyByRows, ReadyByRows}
use Rattle.flow_laws.proofs.GoalParts.{before_whole_part}
use Rattle.flow_fold_laws.proofs.OutsideChoices.{fixed_left, fixed_right}
use Rattle.flow_laws.proofs.FoldingLemmas.{folded_where_free}
use Rattle.flow_fold_laws.proofs.FoldedSettled.{in_choice_leaf, finished_settled, turn_settles, settled_turn}

-- What is settled only where it is done

-- no leaf outside choices lies in one
fixed_in_no_choice : (q : Process) (D : ℕ → Type 0) (n : ℕ) → AreDistinct (leaves q) → n ∈ fixed_leaves q → ¬ (IsInFinishedChoice q D n)
fixed_in_no_choice (Sequence a b) D n d m = let (da, db, _) = distinct_parts (leaves a) (leaves b) d in
    ⊎_elim (λ h. fixed_in_no_choice a D n da (fixed_left a b n d m (in_choice_leaf a D n h)) h)
    (λ h. fixed_in_no_choice b D n db (fixed_right a b n d m (in_choice_leaf b D n h)) h)
fixed_in_no_choice (Parallel a b) D n d m = let (da, db, _) = distinct_parts (leaves a) (leaves b) d in
    ⊎_elim (λ h. fixed_in_no_choice a D n da (fixed_left a b n d m (in_choice_leaf a D n h)) h)
    (λ h. fixed_in_no_choice b D n db (fixed_right a b n d m (in_choice_leaf b D n h)) h)
fixed_in_no_choice (Choice a b) D n d m = absurd m
fixed_in_no_choice (Isolated a) D n d m = fixed_in_no_choice a D n d m
fixed_in_no_choice leaf D n d m = λ h. h

none_where_free : (q : Process) (D : ℕ → Type 0) (n : ℕ) → IsChoiceFree q → ¬ (IsInFinishedChoice q D n)
none_where_free (Sequence a b) D n (f, g) = ⊎_elim (none_where_free a D n f) (none_where_free b D n g)
none_where_free (Parallel a b) D n (f, g) = ⊎_elim (none_where_free a D n f) (none_where_free b D n g)
none_where_free (Choice a b) D n f = absurd f
none_where_free (Isolated a) D n f = none_where_free a D n f
none_where_free leaf D n f = λ h. h

-- a goal with all leaves done is finished
all_done : (q : Process) (D : ℕ → Type 0) → ((x : ℕ) → x ∈ leaves q → D x) → IsFinished q D
all_done Empty D all = tt
all_done (Task n) D all = all n (inl refl)
all_done (Sequence a b) D all =
    (all_done a D (λ x m. all x (mem_append_left x (leaves a) (leaves b) m)), all_done b D (λ x m. all x (mem_append_right x (leaves a) (leaves b) m)))
all_done (Parallel a b) D all =
    (all_done a D (λ x m. all x (mem_append_left x (leaves a) (leaves b) m)), all_done b D (λ x m. all x (mem_append_right x (leaves a) (leaves b) m)))
all_done (Choice a b) D all = inl (all_done a D (λ x m. all x (mem_append_left x (leaves a) (leaves b) m)))
all_done (Isolated a) D all = all_done a D all

-- there is no choice in an isolated part
part_free : (q : Process) → IsFolded q → (part : Process) → part ∈ isolated_parts q → IsChoiceFree part
part_free (Sequence a b) (f, g) part m = ⊎_elim (part_free a f part) (part_free b g part) (mem-append part (isolated_parts a) (isolated_parts b) m)
part_free (Parallel a b) (f, g) part m = ⊎_elim (part_free a f part) (part_free b g part) (mem-append part (isolated_parts a) (isolated_parts b) m)
part_free (Choice a b) (_, f, g) part m = ⊎_elim (part_free a f part) (part_free b g part) (mem-append part (isolated_parts a) (isolated_parts b) m)
part_free (Isolated a) f part m = ⊎_elim (λ e. subst IsChoiceFree (sym e) f) (part_free a (folded_where_free a f) part) m
part_free leaf f part m = absurd m

-- By rows

module _ (q : Process) (pairs : List (ℕ × ℕ)) (w : IsFoldedOrdered q pairs) (D : ℕ → Type 0) (n : ℕ) where
  -- of a pair, the first leaf is settled only where it is done
  first_done : (x y : ℕ) → (x, y) ∈ pairs → IsSettled q D x → D x
  first_done x y m =
      let (fixed, _) = each_member (λ pair. (pair.0 ∈ fixed_leaves q) × (pair.1 ∈ fixed_leaves q)) pairs w.of_fixed (x, y) m in
      ⊎_elim (λ d. d) (λ h. absurd (fixed_in_no_choice q D x w.distinct fixed h))

  part_done : (part : Process) → part ∈ isolated_parts q → IsFinished part D → (y : ℕ) → y ∈ leaves part → D y
  part_done part m f y l = ⊎_elim (λ d. d) (λ h. absurd (none_where_free part D y (part_free q w.folded part m) h)) (finished_settled part D f y l)

  pub rows_of_ready : IsFoldedReady q pairs D n → IsReadyByRows q pairs D n
  rows_of_ready h = record {
    leaf = h.leaf;
    not_done = h.not_done;
    not_closed = h.not_closed;
    before = λ x. ⊎_elim (turn_settles q D n h.turn x) (λ m. inl (h.before x m));
    outside = λ part m l x y k d. part_done part m (h.outside part m l (x, k, d)) y;
    begins = λ part m k none x y l p. ⊎_elim
        (λ s. turn_settles q D n h.turn x (before_whole_part q w.distinct part m x y n l p k s))
        (λ i. inl (h.begins part m k (λ (z, j, d). none z j d) x y l p i));
  }

  pub ready_of_rows : IsReadyByRows q pairs D n → IsFoldedReady q pairs D n
  ready_of_rows h = record {
    leaf = h.leaf;
    not_done = h.not_done;
    not_closed = h.not_closed;
    turn = settled_turn q D w.folded w.distinct n h.not_closed (λ x s. h.before x (inl s));
    before = λ x m. first_done x n m (h.before x (inr m));
    outside = λ part m l (x, k, d). all_done part D (λ y. h.outside part m l x y k d);
    begins = λ part m k none x y l p i. first_done x y i (h.begins part m k (λ z j d. none (z, j, d)) x y l p (inr i));
  }

pub ready_by_rows : ReadyByRows
ready_by_rows q pairs w done n = (rows_of_ready q pairs w (λ x. IsTrue (done x)) n, ready_of_rows q pairs w (λ x. IsTrue (done x)) n)
