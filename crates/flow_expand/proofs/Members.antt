-- Members of lists and their places, and lists that are written out one by one.
use Rattle.std.proofs.Common.{◌≡◌, ℕ, zero, suc, List, [], ◌∷◌, ◌++◌, ◌⊎◌, ◌||◌, Bool, true, false, map, slice_get, Some, refl, sym, ap, ◌∙◌, subst, inl, inr, option_map, ◌+◌, ◌<◌, length, get_or, take}
use Rattle.std.proofs.lemmas.List.{map_push, map_more}
use Rattle.std.specs.Bool.{Decides}
use Rattle.std.specs.List.{flat_map, list_any}
use Rattle.std.proofs.lemmas.Option.{slice_get-map, slice_get-get_or}
use Rattle.flow_model.specs.Lists.{◌∈◌, Each, AreDistinct}
use Rattle.flow_model.proofs.Lists.{each_from_members, each_member, mem-slice_get}
use Rattle.flow_model.proofs.MadeLists.{flat_map_end, mem-flat_map, mem-map}

pub get_map : {A B : Type 0} (f : A → B) (xs : List A) (i : ℕ) (x : A) → slice_get xs i ≡ Some x → slice_get (map f xs) i ≡ Some (f x)
get_map f xs i x e = slice_get-map f xs i ∙ ap (option_map f) e

-- in a list of distinct members each has one place
pub same_place : {A : Type 0} (xs : List A) (i j : ℕ) (x : A) → AreDistinct xs → slice_get xs i ≡ Some x → slice_get xs j ≡ Some x → i ≡ j
same_place [] i j x d e f = absurd (cc)
same_place (y ∷ xs) zero zero x d e f = refl
same_place (y ∷ xs) zero (suc j) x d e f = let g : Some y ≡ Some x = e in let h : y ≡ x = cc in absurd (d.0 (subst (λ z. z ∈ xs) (sym h) (mem-slice_get xs j x f)))
same_place (y ∷ xs) (suc i) zero x d e f = let g : Some y ≡ Some x = f in let h : y ≡ x = cc in absurd (d.0 (subst (λ z. z ∈ xs) (sym h) (mem-slice_get xs i x e)))
same_place (y ∷ xs) (suc i) (suc j) x d e f = ap suc (same_place xs i j x d.1 e f)

-- a list of what the elements stand for, and one more
pub flat_more : {X Y A : Type 0} (f : Y → List A) (g : X → Y) (xs : List X) (i : ℕ) (x : X) → i < length xs → x ≡ get_or xs i x →
    flat_map f (map g (take (i + 1) xs)) ≡ flat_map f (map g (take i xs)) ++ f (g x)
flat_more f g xs i x lt is =
    ap (flat_map f) (map_more g xs i x lt) ∙ flat_map_end f (map g (take i xs)) (g (get_or xs i x)) ∙ ap (λ y. flat_map f (map g (take i xs)) ++ f (g y)) (sym is)

-- what all of it meet, those of one element meet
pub each_of_one : {X Y A : Type 0} (P : A → Type 0) (f : Y → List A) (g : X → Y) (xs : List X) (i : ℕ) (x : X) → i < length xs → x ≡ get_or xs i x →
    Each P (flat_map f (map g xs)) → Each P (f (g x))
each_of_one P f g xs i x lt is all =
    each_from_members P (f (g x)) (λ a m. each_member P (flat_map f (map g xs)) all a
    (mem-flat_map f (g x) a (map g xs) (mem-map g x xs (mem-slice_get xs i x (slice_get-get_or xs i x lt ∙ ap Some (sym is)))) m))

-- members found by a test of equality

module _ {A : Type 0} (E : A → A → Bool) (decides : (a b : A) → Decides (E a b) (a ≡ b)) where
  -- what is found is a member
  pub any_member : (x : A) (xs : List A) → list_any (E x) xs ≡ true → x ∈ xs
  any_member x [] h = absurd (cc)
  any_member x (y ∷ xs) h = go (E x y) refl (any_member x xs)
    where
      go : (t : Bool) → E x y ≡ t → (list_any (E x) xs ≡ true → x ∈ xs) → (x ≡ y) ⊎ (x ∈ xs)
      go true e rest = inl ((decides x y).0 e)
      go false e rest = inr (rest (sym (ap (λ t. t || list_any (E x) xs) e) ∙ h))

  -- and a member is found
  pub member_any : (x : A) (xs : List A) → x ∈ xs → list_any (E x) xs ≡ true
  member_any x [] m = absurd m
  member_any x (y ∷ xs) (inl e) = ap (λ t. t || list_any (E x) xs) ((decides x y).1 e)
  member_any x (y ∷ xs) (inr m) = go (E x y) (member_any x xs m)
    where
      go : (t : Bool) → list_any (E x) xs ≡ true → (t || list_any (E x) xs) ≡ true
      go true e = refl
      go false e = e

  -- what is no member is not found
  pub never_any : (x : A) (xs : List A) → ¬ (x ∈ xs) → list_any (E x) xs ≡ false
  never_any x xs out = go (list_any (E x) xs) refl
    where
      go : (t : Bool) → list_any (E x) xs ≡ t → list_any (E x) xs ≡ false
      go true e = absurd (out (any_member x xs e))
      go false e = e

pub one_more : {B C : Type 0} (g : B → C) (made new : List C) (x : C) (ys : List B) (i : ℕ) (y : B) → i < length ys → made ≡ map g (take i ys) →
    x ≡ g (get_or ys i y) → new ≡ made ++ x ∷ [] → new ≡ map g (take (i + 1) ys)
one_more g made new x ys i y lt before same grown = grown ∙ (λ t. before t ++ same t ∷ []) ∙ sym (map_more g ys i y lt)

-- the same of what the elements stand for
pub one_more_mapped : {A B C : Type 0} (f : A → C) (g : B → C) (made new : List A) (x : A) (ys : List B) (i : ℕ) (y : B) → i < length ys →
    map f made ≡ map g (take i ys) → f x ≡ g (get_or ys i y) → new ≡ made ++ x ∷ [] → map f new ≡ map g (take (i + 1) ys)
one_more_mapped f g made new x ys i y lt before same grown =
    one_more g (map f made) (map f new) (f x) ys i y lt before same (ap (map f) grown ∙ map_push f made x)
