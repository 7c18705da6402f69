-- Going through the choices once, inner ones first, gives the settled leaves.
use Rattle.std.proofs.Common.{ℕ, List, [], ◌∷◌, ◌++◌, ◌⊎◌, ◌↔◌, IsTrue, inl, inr, ⊎_elim}
use Rattle.flow_model.specs.Lists.{◌∈◌, AreDistinct}
use Rattle.flow_model.specs.Process.{Process, Sequence, Parallel, Choice, Isolated, leaves}
use Rattle.flow_model.specs.FoldedReady.{IsFinished}
use Rattle.flow_model.proofs.Lists.{mem_append_left, mem_append_right, distinct_parts}
use Rattle.flow_model.specs.Folding.{choices_of}
use Rattle.flow_fold_laws.specs.FoldedRows.{IsInFinishedChoice, IsSettled, Covers, Settling, SettledInOnePass}
use Rattle.flow_fold_laws.proofs.FoldedSettled.{IsSettledInHalf, finished_more, in_choice_leaf, finished_settled, settled_finished, of_left, of_right}

-- More leaves

in_choice_more : (q : Process) (D E : ℕ → Type 0) → ((x : ℕ) → x ∈ leaves q → D x → E x) → (n : ℕ) → IsInFinishedChoice q D n → IsInFinishedChoice q E n
in_choice_more (Sequence a b) D E to n = ⊎_elim
    (λ h. inl (in_choice_more a D E (λ x m. to x (mem_append_left x (leaves a) (leaves b) m)) n h))
    (λ h. inr (in_choice_more b D E (λ x m. to x (mem_append_right x (leaves a) (leaves b) m)) n h))
in_choice_more (Parallel a b) D E to n = ⊎_elim
    (λ h. inl (in_choice_more a D E (λ x m. to x (mem_append_left x (leaves a) (leaves b) m)) n h))
    (λ h. inr (in_choice_more b D E (λ x m. to x (mem_append_right x (leaves a) (leaves b) m)) n h))
in_choice_more (Choice a b) D E to n = ⊎_elim
    (λ (m, f). inl (m, finished_more (Choice a b) D E to f))
    (⊎_elim
    (λ h. inr (inl (in_choice_more a D E (λ x m. to x (mem_append_left x (leaves a) (leaves b) m)) n h)))
    (λ h. inr (inr (in_choice_more b D E (λ x m. to x (mem_append_right x (leaves a) (leaves b) m)) n h))))
in_choice_more (Isolated a) D E to n = in_choice_more a D E to n
in_choice_more leaf D E to n = absurd

-- the leaves of a choice, where the set covers a side of it
abbrev IsCovered : (Process × Process) → (ℕ → Type 0) → ℕ → Type 0
IsCovered choice S x = (x ∈ (leaves choice.0 ++ leaves choice.1)) × (Covers S choice.0 ⊎ Covers S choice.1)

-- some choices, and then others
settling-append : (choices more : List (Process × Process)) (S : ℕ → Type 0) (n : ℕ) → Settling (choices ++ more) S n ↔ Settling more (Settling choices S) n
settling-append [] more S n = (λ h. h, λ h. h)
settling-append (choice ∷ choices) more S n = settling-append choices more (λ x. S x ⊎ IsCovered choice S x) n

-- One pass

-- the pass through the choices of the goal gives what is settled in it
abbrev Passes : Process → (ℕ → Type 0) → Type 0
Passes q S = (n : ℕ) → Settling (choices_of q) S n ↔ IsSettled q S n

halves_pass : (a b : Process) → AreDistinct (leaves a ++ leaves b) → ((S : ℕ → Type 0) → Passes a S) → ((S : ℕ → Type 0) → Passes b S) →
    (S : ℕ → Type 0) (n : ℕ) → Settling (choices_of a ++ choices_of b) S n ↔ IsSettledInHalf a b S n
halves_pass a b d left right S n = (
  λ h. ⊎_elim
      (λ s. ⊎_elim inl (λ k. inr (inl k)) ((left S n).0 s))
      (λ k. inr (inr (in_choice_more b T S (λ x m t. ⊎_elim (λ s. s) (λ c. absurd (apart x (in_choice_leaf a S x c) m)) ((left S x).0 t)) n k)))
      ((right T n).0 ((settling-append (choices_of a) (choices_of b) S n).0 h)),
  λ h. (settling-append (choices_of a) (choices_of b) S n).1 ((right T n).1 (⊎_elim
      (λ s. inl ((left S n).1 (inl s)))
      (⊎_elim (λ k. inl ((left S n).1 (inr k))) (λ k. inr (in_choice_more b S T (λ x m s. (left S x).1 (inl s)) n k))) h)),
)
  where
    T : ℕ → Type 0
    T = Settling (choices_of a) S

    apart : (x : ℕ) → x ∈ leaves a → ¬ (x ∈ leaves b)
    apart = (distinct_parts (leaves a) (leaves b) d).2

pub one_pass : (q : Process) → AreDistinct (leaves q) → (S : ℕ → Type 0) → Passes q S
one_pass (Sequence a b) d S n = let (da, db, _) = distinct_parts (leaves a) (leaves b) d in halves_pass a b d (one_pass a da) (one_pass b db) S n
one_pass (Parallel a b) d S n = let (da, db, _) = distinct_parts (leaves a) (leaves b) d in halves_pass a b d (one_pass a da) (one_pass b db) S n
one_pass (Choice a b) d S n = let (da, db, _) = distinct_parts (leaves a) (leaves b) d in
    choice_pass da db (halves_pass a b d (one_pass a da) (one_pass b db) S)
  where
    T : ℕ → Type 0
    T = Settling (choices_of a ++ choices_of b) S

    choice_pass : AreDistinct (leaves a) → AreDistinct (leaves b) → ((x : ℕ) → T x ↔ IsSettledInHalf a b S x) →
        Settling ((choices_of a ++ choices_of b) ++ (a, b) ∷ []) S n ↔ IsSettled (Choice a b) S n
    choice_pass da db halves = (
      λ h. ⊎_elim
          (λ t. ⊎_elim inl (λ k. inr (inr k)) ((halves n).0 t))
          (λ (m, c). inr (inl (m, ⊎_elim (λ all. inl (left_finished da all)) (λ all. inr (right_finished db all)) c)))
          ((settling-append (choices_of a ++ choices_of b) ((a, b) ∷ []) S n).0 h),
      λ h. (settling-append (choices_of a ++ choices_of b) ((a, b) ∷ []) S n).1 (⊎_elim
          (λ s. inl ((halves n).1 (inl s)))
          (⊎_elim (λ (m, f). inr (m, ⊎_elim (λ fin. inl (left_covered fin)) (λ fin. inr (right_covered fin)) f)) (λ k. inl ((halves n).1 (inr k)))) h),
    )
      where
        left_finished : AreDistinct (leaves a) → Covers T a → IsFinished a S
        left_finished da all = settled_finished a S da (λ x m. of_left a b S x d m ((halves x).0 (all x m)))

        right_finished : AreDistinct (leaves b) → Covers T b → IsFinished b S
        right_finished db all = settled_finished b S db (λ x m. of_right a b S x d m ((halves x).0 (all x m)))

        left_covered : IsFinished a S → Covers T a
        left_covered f x m = (halves x).1 (⊎_elim inl (λ k. inr (inl k)) (finished_settled a S f x m))

        right_covered : IsFinished b S → Covers T b
        right_covered f x m = (halves x).1 (⊎_elim inl (λ k. inr (inr k)) (finished_settled b S f x m))
one_pass (Isolated a) d S n = one_pass a d S n
one_pass leaf d S n = (inl, ⊎_elim (λ s. s) absurd)

pub settled_in_one_pass : SettledInOnePass
settled_in_one_pass q done d n = one_pass q d (λ x. IsTrue (done x)) n
