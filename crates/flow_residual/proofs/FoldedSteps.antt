-- Ready runs of options whose choices stay, step by step.
use Rattle.std.proofs.Common.{ℕ, List, [], ◌∷◌, ◌++◌, ◌↔◌, sym, subst, inl, ⊎_elim, arith}
use Rattle.flow_model.specs.Lists.{◌∈◌, AreDistinct}
use Rattle.flow_model.specs.Process.{Process, leaves}
use Rattle.flow_model.specs.Ready.{DoneOr}
use Rattle.flow_model.specs.FoldedReady.{IsClosedOff, IsFoldedReady, IsFoldedRun, IsFoldedRunAfter}
use Rattle.flow_laws.proofs.RunsByStep.{run_as, as_well, run-append, AreSame}
use Rattle.flow_laws.proofs.RunsByStep
use Rattle.flow_fold_laws.proofs.AvoidedTogether.{closed_more}
use Rattle.flow_fold_laws.proofs.FoldedOrdersByTwo.{folded_by_step}

pub same_run : (q : Process) (pairs : List (ℕ × ℕ)) (D E : ℕ → Type 0) (run : List ℕ) → AreSame D E → IsFoldedRunAfter q pairs D run → IsFoldedRunAfter q pairs E run
same_run q pairs D E run same = run_as (folded_by_step q pairs) D E run same

pub run_front : (q : Process) (pairs : List (ℕ × ℕ)) (D : ℕ → Type 0) (front back : List ℕ) → IsFoldedRunAfter q pairs D (front ++ back) → IsFoldedRunAfter q pairs D front
run_front q pairs = RunsByStep.run_front (folded_by_step q pairs)

pub run_after_journal : (q : Process) (pairs : List (ℕ × ℕ)) (journal more : List ℕ) →
    IsFoldedRun q pairs (journal ++ more) ↔ (IsFoldedRun q pairs journal × IsFoldedRunAfter q pairs (λ n. n ∈ journal) more)
run_after_journal q pairs journal more =
    grind (arith, run-append (folded_by_step q pairs) (λ n. ⊥) journal more, as_well (folded_by_step q pairs) (DoneOr (λ n. ⊥) journal) (λ n. n ∈ journal) more (λ n. grind arith))

-- each leaf of a ready run may come next after those before it
pub ready_at : (q : Process) (pairs : List (ℕ × ℕ)) (front : List ℕ) (n : ℕ) (back : List ℕ) → IsFoldedRun q pairs (front ++ n ∷ back) →
    IsFoldedReady q pairs (λ x. x ∈ front) n
ready_at q pairs front n back h = ((run_after_journal q pairs front (n ∷ back)).0 h).1.0

-- one more ready leaf
pub run_grow : (q : Process) (pairs : List (ℕ × ℕ)) (run : List ℕ) (n : ℕ) → IsFoldedRun q pairs run → IsFoldedReady q pairs (λ x. x ∈ run) n →
    IsFoldedRun q pairs (run ++ n ∷ [])
run_grow q pairs run n h r = (run_after_journal q pairs run (n ∷ [])).1 (h, (r, tt))

-- each leaf of a ready run is one of the goal
pub run_leaf : (q : Process) (pairs : List (ℕ × ℕ)) (D : ℕ → Type 0) (run : List ℕ) → IsFoldedRunAfter q pairs D run → (n : ℕ) → n ∈ run → n ∈ leaves q
run_leaf q pairs D [] h n m = absurd m
run_leaf q pairs D (k ∷ run) (r, h) n m = ⊎_elim (λ e. subst (λ z. z ∈ leaves q) (sym e) r.leaf) (run_leaf q pairs (DoneOr D (k ∷ [])) run h n) m

-- the leaves of a ready run are distinct and were not done
pub run_distinct : (q : Process) (pairs : List (ℕ × ℕ)) (D : ℕ → Type 0) (run : List ℕ) → IsFoldedRunAfter q pairs D run →
    AreDistinct run × ((x : ℕ) → x ∈ run → ¬ (D x))
run_distinct q pairs D [] h = (tt, λ x k. absurd k)
run_distinct q pairs D (n ∷ run) h = grind (arith, run_distinct q pairs (DoneOr D (n ∷ [])) run h.1, h.0.not_done)

-- no leaf of a ready run is closed off by those done before it
pub run_not_closed : (q : Process) (pairs : List (ℕ × ℕ)) (D : ℕ → Type 0) (run : List ℕ) → IsFoldedRunAfter q pairs D run → (n : ℕ) → n ∈ run → ¬ (IsClosedOff q D n)
run_not_closed q pairs D [] h n m closed = m
run_not_closed q pairs D (k ∷ run) (r, h) n m closed = ⊎_elim
    (λ e. r.not_closed (subst (IsClosedOff q D) e closed))
    (λ more. run_not_closed q pairs (DoneOr D (k ∷ [])) run h n more (closed_more q D (DoneOr D (k ∷ [])) n (λ x d. inl d) closed)) m
