-- The first place in a list at which a member stands, found by a test of equality.
use Rattle.std.proofs.Common.{◌≡◌, ℕ, zero, suc, ◌+◌, ◌<◌, Bool, true, false, cond, List, [], ◌∷◌, length, slice_get, Some, refl, sym, ap, ◌∙◌, subst, inl, inr, arith}
use Rattle.std.specs.Prelude.{not}
use Rattle.std.specs.List.{position_or_len}
use Rattle.std.specs.Bool.{Decides}
use Rattle.flow_model.specs.Lists.{◌∈◌, AreDistinct}
use Rattle.flow_model.proofs.Lists.{mem-slice_get}

module _ {A : Type 0} (E : A → A → Bool) (decides : (a b : A) → Decides (E a b) (a ≡ b)) where
  at_head : (x y : A) (xs : List A) (b : Bool) → E x y ≡ b → position_or_len (E x) (y ∷ xs) ≡ cond (not b) (1 + position_or_len (E x) xs) 0
  at_head x y xs b e = ap (λ v. cond (not v) (1 + position_or_len (E x) xs) 0) e

  different : (x y : A) → (x ≡ y → ⊥) → E x y ≡ false
  different x y other = go (E x y) refl
    where
      go : (b : Bool) → E x y ≡ b → E x y ≡ false
      go true e = absurd (other ((decides x y).0 e))
      go false e = e

  -- in a list of distinct members it is the place of the member
  pub place_in : (xs : List A) (i : ℕ) (x : A) → AreDistinct xs → slice_get xs i ≡ Some x → position_or_len (E x) xs ≡ i
  place_in [] i x d e = cc
  place_in (y ∷ xs) zero x d e =
      let f : Some y ≡ Some x = e in
      let same : x ≡ y = cc in
      at_head x y xs true ((decides x y).1 same)
  place_in (y ∷ xs) (suc i) x d e =
      at_head x y xs false (different x y (λ same. d.0 (subst (λ z. z ∈ xs) same (mem-slice_get xs i x e))))
      ∙ (let rest = place_in xs i x d.1 e in omega arith)

  there : (x y : A) (xs : List A) → x ∈ (y ∷ xs) → E x y ≡ false → x ∈ xs
  there x y xs (inl same) e = let f : true ≡ false = sym ((decides x y).1 same) ∙ e in absurd (cc)
  there x y xs (inr m) e = m

  -- a member is found within the list
  pub within : (x : A) (xs : List A) → x ∈ xs → position_or_len (E x) xs < length xs
  within x [] m = absurd m
  within x (y ∷ xs) m = go (E x y) refl (λ e. within x xs (there x y xs m e))
    where
      go : (b : Bool) → E x y ≡ b → (E x y ≡ false → position_or_len (E x) xs < length xs) → position_or_len (E x) (y ∷ xs) < length (y ∷ xs)
      go true e rest = omega (arith, at_head x y xs true e)
      go false e rest = omega (arith, at_head x y xs false e, rest e)
