-- What goals can go on without, by leaves that are begun.
use Rattle.std.proofs.Common.{◌≡◌, ◌≢◌, ℕ, Bool, true, false, IsTrue, List, [], ◌∷◌, ◌↔◌, refl, sym, subst, inl, inr, ⊎_elim, ◌∙◌, true≢false}
use Rattle.std.specs.List.{list_any}
use Rattle.flow_model.specs.Lists.{◌∈◌, AreDistinct}
use Rattle.flow_model.specs.Process.{Process, Empty, Task, Sequence, Parallel, Choice, Isolated, leaves}
use Rattle.flow_model.specs.Ready.{DoneOr}
use Rattle.flow_model.specs.Decided.{decide_eq}
use Rattle.flow_model.specs.Folding.{IsFolded}
use Rattle.flow_model.specs.FoldedReady.{IsClosedOff, IsFoldedRunAfter}
use Rattle.flow_model.specs.FoldedRun.{CanAvoid}
use Rattle.flow_model.proofs.Lists.{only_one, mem-append}
use Rattle.flow_fold_laws.specs.FoldedRows.{spoiled_by}
use Rattle.flow_model.specs.Folding.{choices_of}
use Rattle.flow_fold_laws.proofs.AvoidedTogether.{avoid_less, closed_more, all_may_begin}
use Rattle.flow_fold_laws.proofs.BegunNext.{member_test}
use Rattle.flow_fold_laws.proofs.FoldedAvoid.{is_in, avoided_in_one_pass}
use Rattle.flow_plan.proofs.ClosedLemmas.{closed_turned}
use Rattle.flow_residual.proofs.FoldedSteps.{run_not_closed}

-- where fewer leaves are begun and fewer are banned
pub avoid_as : (q : Process) (D E B C : ℕ → Type 0) → ((n : ℕ) → E n → D n) → ((n : ℕ) → C n → B n) → CanAvoid q D B → CanAvoid q E C
avoid_as q D E B C less few = avoid_less q D E B C (λ n m. less n) (λ n m. few n)

-- what is told by tests is one or the other
pub avoids_unless_not : (q : Process) → IsFolded q → AreDistinct (leaves q) → (begun out : ℕ → Bool) →
    ¬ (¬ (CanAvoid q (λ n. IsTrue (begun n)) (λ n. IsTrue (out n)))) → CanAvoid q (λ n. IsTrue (begun n)) (λ n. IsTrue (out n))
avoids_unless_not q folded distinct begun out not_not =
    let told = avoided_in_one_pass q begun out folded distinct in
    decided (list_any (spoiled_by (choices_of q) begun out) (leaves q)) told
  where
    decided : (b : Bool) → (CanAvoid q (λ n. IsTrue (begun n)) (λ n. IsTrue (out n)) ↔ (b ≡ false)) → CanAvoid q (λ n. IsTrue (begun n)) (λ n. IsTrue (out n))
    decided true told = absurd (not_not (λ can. true≢false (told.0 can)))
    decided false told = told.1 refl

-- a leaf that is begun is not banned
pub begun_not_banned : (q : Process) (D B : ℕ → Type 0) (x : ℕ) → CanAvoid q D B → x ∈ leaves q → D x → ¬ (B x)
begun_not_banned Empty D B x h m d b = m
begun_not_banned (Task n) D B x h m d b = h (subst B (only_one x n m) b)
begun_not_banned (Sequence a b) D B x h m d out =
    ⊎_elim (λ l. begun_not_banned a D B x h.0 l d out) (λ r. begun_not_banned b D B x h.1 r d out) (mem-append x (leaves a) (leaves b) m)
begun_not_banned (Parallel a b) D B x h m d out =
    ⊎_elim (λ l. begun_not_banned a D B x h.0 l d out) (λ r. begun_not_banned b D B x h.1 r d out) (mem-append x (leaves a) (leaves b) m)
begun_not_banned (Choice a b) D B x h m d out = ⊎_elim
    (λ l. ⊎_elim (λ way. begun_not_banned a D B x way.0 l d out) (λ way. way.1 (x, l, d)) h)
    (λ r. ⊎_elim (λ way. way.1 (x, r, d)) (λ way. begun_not_banned b D B x way.0 r d out) h) (mem-append x (leaves a) (leaves b) m)
begun_not_banned (Isolated a) D B x h m d out = begun_not_banned a D B x h m d out

-- leaves that may follow one after another do not close off each other
run_apart : (q : Process) (pairs : List (ℕ × ℕ)) (D : ℕ → Type 0) (run : List ℕ) → IsFoldedRunAfter q pairs D run → (x y : ℕ) → x ∈ run → y ∈ run → x ≢ y →
    ¬ (IsClosedOff q (λ n. n ≡ x) y)
run_apart q pairs D [] h x y m k other = absurd m
run_apart q pairs D (n ∷ run) (r, h) x y (inl e) (inl i) other = absurd (other (e ∙ sym i))
run_apart q pairs D (n ∷ run) (r, h) x y (inl e) (inr k) other = λ c. run_not_closed q pairs (DoneOr D (n ∷ [])) run h y k
    (closed_more q (λ z. z ≡ x) (DoneOr D (n ∷ [])) y (λ z i. inr (inl (i ∙ e))) c)
run_apart q pairs D (n ∷ run) (r, h) x y (inr m) (inl i) other = λ c. run_not_closed q pairs (DoneOr D (n ∷ [])) run h x m
    (closed_more q (λ z. z ≡ y) (DoneOr D (n ∷ [])) x (λ z e. inr (inl (e ∙ i))) (closed_turned q x y c))
run_apart q pairs D (n ∷ run) (r, h) x y (inr m) (inr k) other = run_apart q pairs (DoneOr D (n ∷ [])) run h x y m k other

-- leaves that may follow one after another, and of which each may be begun, may all be begun
pub together : (q : Process) (pairs : List (ℕ × ℕ)) (journal out run : List ℕ) → IsFoldedRunAfter q pairs (λ n. n ∈ journal) run → CanAvoid q (λ n. n ∈ journal) (λ n. n ∈ out) →
    ((x : ℕ) → x ∈ run → CanAvoid q (DoneOr (λ n. n ∈ journal) (x ∷ [])) (λ n. n ∈ out)) → CanAvoid q (DoneOr (λ n. n ∈ journal) run) (λ n. n ∈ out)
together q pairs journal out run runs now each =
    of_tests run ((all_may_begin q (is_in journal) (is_in out) run).1 (record {
      now = avoid_as q (λ n. n ∈ journal) (λ n. IsTrue (is_in journal n)) (λ n. n ∈ out) (λ n. IsTrue (is_in out n)) (λ n. (member_test journal n).0) (λ n. (member_test out n).0) now;
      each = λ x m. to_tests x (each x m);
      apart = λ x y m k. ⊎_elim (λ same. alone x y m same) (λ other. run_apart q pairs (λ n. n ∈ journal) run runs x y m k other) (decide_eq x y);
    }))
  where
    of_tests : (list : List ℕ) → CanAvoid q (DoneOr (λ n. IsTrue (is_in journal n)) list) (λ n. IsTrue (is_in out n)) → CanAvoid q (DoneOr (λ n. n ∈ journal) list) (λ n. n ∈ out)
    of_tests list = avoid_as q (DoneOr (λ n. IsTrue (is_in journal n)) list) (DoneOr (λ n. n ∈ journal) list) (λ n. IsTrue (is_in out n)) (λ n. n ∈ out)
        (λ n. ⊎_elim (λ m. inl ((member_test journal n).1 m)) inr) (λ n. (member_test out n).1)

    to_tests : (x : ℕ) → CanAvoid q (DoneOr (λ n. n ∈ journal) (x ∷ [])) (λ n. n ∈ out) → CanAvoid q (DoneOr (λ n. IsTrue (is_in journal n)) (x ∷ [])) (λ n. IsTrue (is_in out n))
    to_tests x = avoid_as q (DoneOr (λ n. n ∈ journal) (x ∷ [])) (DoneOr (λ n. IsTrue (is_in journal n)) (x ∷ [])) (λ n. n ∈ out) (λ n. IsTrue (is_in out n))
        (λ n. ⊎_elim (λ m. inl ((member_test journal n).0 m)) inr) (λ n. (member_test out n).0)

    alone : (x y : ℕ) → x ∈ run → x ≡ y → ¬ (IsClosedOff q (λ n. n ≡ x) y)
    alone x y m same = subst (λ z. ¬ (IsClosedOff q (λ n. n ≡ x) z)) same (((all_may_begin q (is_in journal) (is_in out) (x ∷ [])).0 (to_tests x (each x m))).apart x x (inl refl) (inl refl))

-- and each alone
pub one_of : (q : Process) (D B : ℕ → Type 0) (list : List ℕ) (x : ℕ) → CanAvoid q (DoneOr D list) B → x ∈ list → CanAvoid q (DoneOr D (x ∷ [])) B
one_of q D B list x h m = avoid_as q (DoneOr D list) (DoneOr D (x ∷ [])) B B (λ n. ⊎_elim inl (λ k. inr (subst (λ z. z ∈ list) (sym (only_one n x k)) m))) (λ n b. b) h
