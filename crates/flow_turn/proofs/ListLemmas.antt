-- Sums over a list, lists of which each member has a fact, and the entries that one caller made.
use Rattle.std.proofs.Common.{◌≡◌, ◌≢◌, ℕ, zero, suc, ◌+◌, ◌<◌, ◌≤◌, ◌⊎◌, inl, inr, ⊎_elim, List, [], ◌∷◌, ◌++◌, length, sym, refl, ap, arith, set, eq-eqb, ne_eqb}
use mathlib.Core.Option.{some, some-injective, some-ne-none}
use lib.ListN.{get_elem?}
use Rattle.flow_model.specs.Lists.{Each}
use Rattle.flow_turn.specs.Entries.{made_by}
use Rattle.flow_turn.specs.Turns.{total}

module _ {A : Type 0} (f : A → ℕ) where
  pub total-set : (l : List A) (i : ℕ) (v w : A) → get_elem? l i ≡ some v → total f (set l i w) + f v ≡ total f l + f w
  total-set [] i v w e = absurd (some-ne-none v (sym e))
  total-set (x ∷ xs) zero v w e = let same : f x ≡ f v = ap f (some-injective x v e) in omega arith
  total-set (x ∷ xs) (suc i) v w e = let rest = total-set xs i v w e in omega arith

  pub total-append : (l : List A) (x : A) → total f (l ++ x ∷ []) ≡ total f l + f x
  total-append [] x = omega arith
  total-append (y ∷ ys) x = let rest = total-append ys x in omega arith

  pub total-at : (l : List A) (i : ℕ) (v : A) → get_elem? l i ≡ some v → f v ≤ total f l
  total-at [] i v e = absurd (some-ne-none v (sym e))
  total-at (x ∷ xs) zero v e = let same : f x ≡ f v = ap f (some-injective x v e) in omega arith
  total-at (x ∷ xs) (suc i) v e = let rest = total-at xs i v e in omega arith

  pub total-two : (l : List A) (i j : ℕ) (v w : A) → i ≢ j → get_elem? l i ≡ some v → get_elem? l j ≡ some w → f v + f w ≤ total f l
  total-two [] i j v w apart a b = absurd (some-ne-none v (sym a))
  total-two (x ∷ xs) zero zero v w apart a b = absurd (apart refl)
  total-two (x ∷ xs) zero (suc j) v w apart a b = let same : f x ≡ f v = ap f (some-injective x v a) in let rest = total-at xs j w b in omega arith
  total-two (x ∷ xs) (suc i) zero v w apart a b = let same : f x ≡ f w = ap f (some-injective x w b) in let rest = total-at xs i v a in omega arith
  total-two (x ∷ xs) (suc i) (suc j) v w apart a b = let rest = total-two xs i j v w (λ e. apart (ap suc e)) a b in omega arith

  pub total-le : (l : List A) → ((x : A) → f x ≤ 1) → total f l ≤ length l
  total-le [] most = omega arith
  total-le (x ∷ xs) most = let here = most x in let rest = total-le xs most in omega arith

module _ {A : Type 0} where
  pub Each-map : (P Q : A → Type 0) (xs : List A) → ((x : A) → P x → Q x) → Each P xs → Each Q xs
  Each-map P Q [] f a = tt
  Each-map P Q (x ∷ xs) f a = (f x a.0, Each-map P Q xs f a.1)

  pub at_below : (l : List A) (i : ℕ) (v : A) → get_elem? l i ≡ some v → i < length l
  at_below [] i v e = absurd (some-ne-none v (sym e))
  at_below (x ∷ xs) zero v e = omega arith
  at_below (x ∷ xs) (suc i) v e = let rest = at_below xs i v e in omega arith

  -- what stands in a list with one item more: an old one, or the new one at the end
  pub at_more : (l : List A) (x : A) (i : ℕ) (v : A) → get_elem? (l ++ x ∷ []) i ≡ some v → (get_elem? l i ≡ some v) ⊎ ((i ≡ length l) × (x ≡ v))
  at_more [] x zero v e = inr (refl, some-injective x v e)
  at_more [] x (suc i) v e = absurd (some-ne-none v (sym e))
  at_more (y ∷ ys) x zero v e = inl e
  at_more (y ∷ ys) x (suc i) v e = ⊎_elim inl (λ (t : (i ≡ length ys) × (x ≡ v)). let here = t.0 in inr (omega arith, t.1)) (at_more ys x i v e)

module _ {E : Type 0} (caller : E → ℕ) where
  -- all are this caller's
  pub made_by-own : (number : ℕ) (added : List E) → Each (λ e. caller e ≡ number) added → made_by caller number added ≡ added
  made_by-own number [] own = refl
  made_by-own number (e ∷ es) own = rw (eq-eqb (caller e) number own.0) (ap (λ l. e ∷ l) (made_by-own number es own.1))

  -- none is this caller's
  pub made_by-none : (number : ℕ) (entries : List E) → Each (λ e. caller e ≢ number) entries → made_by caller number entries ≡ []
  made_by-none number [] others = refl
  made_by-none number (e ∷ es) others = rw (ne_eqb (caller e) number others.0) (made_by-none number es others.1)
