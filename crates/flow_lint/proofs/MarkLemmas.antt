-- Marks that are put one after another, and labels.
use Rattle.std.proofs.Common.{◌≡◌, ◌≢◌, ◌⊎◌, inl, inr, ◌<◌, ◌↔◌, ◌+◌, ℕ, zero, suc, Bool, true, IsTrue, List, [], ◌∷◌, ◌++◌, Option, Some, None, length, take, slice_get, refl, sym, ap, subst, ◌∙◌, arith, length-append}
use Rattle.std.proofs.lemmas.List.{take_more}
use Rattle.std.proofs.lemmas.Option.{get_or_from_slice_get, slice_get_within}
use Rattle.flow_model.specs.Decided.{decide_eq}
use Rattle.flow_workflow.proofs.Places.{at_end}
use Rattle.flow_lint.specs.Constraints.{AreMarks}

-- one more item
pub taken : {A : Type 0} (xs : List A) (i : ℕ) (x : A) → slice_get xs i ≡ Some x → take (i + 1) xs ≡ take i xs ++ x ∷ []
taken xs i x at = take_more xs i x (slice_get_within xs i x at) ∙ ap (λ y. take i xs ++ y ∷ []) (get_or_from_slice_get xs i x x at)

pub there : {A : Type 0} (xs : List A) (i : ℕ) → i < length xs → ¬ (slice_get xs i ≡ None)
there [] i below none = absurd (omega arith)
there (x ∷ xs) zero below none = cc
there (x ∷ xs) (suc i) below none = let less : i < length xs = omega arith in there xs i less none

front_kept : {A : Type 0} (xs : List A) (x : A) (k : ℕ) → k < length xs → slice_get (xs ++ x ∷ []) k ≡ slice_get xs k
front_kept [] x k below = absurd (omega arith)
front_kept (y ∷ ys) x zero below = refl
front_kept (y ∷ ys) x (suc k) below = let less : k < length ys = omega arith in front_kept ys x k less

-- a number below the next one is below this one, or it
cases_below : (k i : ℕ) → k < i + 1 → (k < i) ⊎ (k ≡ i)
cases_below k i below = elim (decide_eq k i) [
  | inl same ↦ inr same
  | inr other ↦ (let ne : k ≢ i = other in inl (omega arith))
]

pub no_marks : (P : ℕ → Type 0) → AreMarks P 0 []
no_marks P = record { as_many = refl; exact = λ k below. absurd (omega arith) }

-- one more mark, by the next number
pub one_mark : (P : ℕ → Type 0) (i : ℕ) (marks new : List Bool) (mark : Bool) → AreMarks P i marks → new ≡ marks ++ mark ∷ [] → IsTrue mark ↔ P i → AreMarks P (i + 1) new
one_mark P i marks new mark are put is = record {
  as_many = ap (λ (l : List Bool). length l) put ∙ length-append marks (mark ∷ []) ∙ ap (λ n. n + 1) are.as_many;
  exact = λ k below. subst (λ (l : List Bool). (slice_get l k ≡ Some true) ↔ P k) (sym put) (at k below);
}
  where
    at : (k : ℕ) → k < i + 1 → (slice_get (marks ++ mark ∷ []) k ≡ Some true) ↔ P k
    at k below = elim (cases_below k i below) [
      | inl less ↦ subst (λ (o : Option Bool). (o ≡ Some true) ↔ P k)
          (sym (front_kept marks mark k (subst (λ n. k < n) (sym are.as_many) less))) (are.exact k less)
      | inr same ↦ subst (λ n. (slice_get (marks ++ mark ∷ []) n ≡ Some true) ↔ P n) (sym same)
          (subst (λ (o : Option Bool). (o ≡ Some true) ↔ P i) (sym (subst (λ n. slice_get (marks ++ mark ∷ []) n ≡ Some mark) are.as_many (at_end marks mark)))
          (λ e. is.0 (let b : mark ≡ true = cc in b), λ p. ap Some (is.1 p)))
    ]
