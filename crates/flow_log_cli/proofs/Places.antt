-- What stands at a place of a list with one more behind it.
use Rattle.std.proofs.Common.{◌≡◌, ◌⊎◌, ◌++◌, ◌∷◌, [], ℕ, zero, suc, List, length, Some, slice_get, inl, inr, refl, sym, ap}

pub some_same : {A : Type 0} (a b : A) → Some a ≡ Some b → a ≡ b
some_same a b e = cc

pub at_one_more : {A : Type 0} (xs : List A) (y x : A) (k : ℕ) → slice_get (xs ++ y ∷ []) k ≡ Some x →
    (slice_get xs k ≡ Some x) ⊎ ((k ≡ length xs) × (x ≡ y))
at_one_more [] y x zero e = inr (refl, sym (some_same y x e))
at_one_more [] y x (suc k) e = cc
at_one_more (z ∷ xs) y x zero e = inl e
at_one_more (z ∷ xs) y x (suc k) e = elim (at_one_more xs y x k e) [
  | inl before ↦ inl before
  | inr last ↦ inr (ap suc last.0, last.1)
]
