-- Whether a list has a number.
use Rattle.std.proofs.Common.{◌≡◌, ◌<◌, ℕ, zero, suc, inl, inr, true, nat_eq, List, [], ◌∷◌, length, slice_get, IsSomeAnd, refl, sym, true≢false, arith}
use Rattle.std.specs.List.{list_any}
use Rattle.std.proofs.lemmas.Bool.{eqb-true, eq-eqb, cases_Bool}
use Rattle.flow_model.specs.declared.labels.Label.{Label}
use Rattle.flow_model.specs.Lists.{◌∈◌}

pub member_of : (list : List ℕ) (n : ℕ) → list_any (λ y. nat_eq y n) list ≡ true → n ∈ list
member_of [] n is = absurd (true≢false (sym is))
member_of (x ∷ xs) n is = elim (cases_Bool (nat_eq x n)) [
  | inl same ↦ inl (sym (eqb-true x n same))
  | inr other ↦ inr (member_of xs n (rw other at is))
]

pub told_member : (list : List ℕ) (n : ℕ) → n ∈ list → list_any (λ y. nat_eq y n) list ≡ true
told_member [] n member = absurd member
told_member (x ∷ xs) n (inl same) = rw (eq-eqb x n (sym same)) refl
told_member (x ∷ xs) n (inr later) = elim (cases_Bool (nat_eq x n)) [
  | inl same ↦ rw same refl
  | inr other ↦ rw other (told_member xs n later)
]

-- a place with a label is one of the list
pub labelled_within : (labels : List Label) (n : ℕ) (P : Label → Type 0) → IsSomeAnd (slice_get labels n) P → n < length labels
labelled_within [] n P h = absurd h
labelled_within (x ∷ xs) zero P h = omega arith
labelled_within (x ∷ xs) (suc n) P h = let l : n < length xs = labelled_within xs n P h in omega arith

-- a list that is not empty has a member
pub some_member : (list : List ℕ) → ¬ (list ≡ []) → 0 < length list
some_member [] none = absurd (none refl)
some_member (x ∷ xs) none = omega arith
