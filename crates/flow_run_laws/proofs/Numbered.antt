-- Lists joined of pieces, by number, and sums over them.
use Rattle.std.proofs.Common.{◌≡◌, ℕ, zero, suc, ◌+◌, ◌<◌, List, [], ◌∷◌, ◌++◌, length, map, take, Some, option_map, slice_get, flat_map, sum_by, refl, sym, ap, ◌∙◌, subst, inl, inr, ⊎_elim, ◌⊎◌, arith}
use Rattle.std.proofs.lemmas.List.Sums.{sum_by-cons, sum_by-append}
use Rattle.std.proofs.lemmas.List.Concat.{flat_map-cons}
use Rattle.std.proofs.lemmas.Option.{slice_get-map}
use Rattle.flow_model.specs.Lists.{◌∈◌, each_with_each}
use Rattle.flow_model.proofs.Lists.{slice_get_append_left}
use Rattle.flow_model.proofs.MadeLists.{slice_get_append_right, some_same}

-- Members by number

-- a member of two lists joined is one of the first or of the second
of_joined : {A : Type 0} (a b : List A) (k : ℕ) (y : A) → slice_get (a ++ b) k ≡ Some y →
    (slice_get a k ≡ Some y) ⊎ ((m : ℕ) × (k ≡ length a + m) × (slice_get b m ≡ Some y))
of_joined [] b k y e = inr (k, omega arith, e)
of_joined (x ∷ a) b zero y e = inl e
of_joined (x ∷ a) b (suc k) y e = ⊎_elim inl (λ (m, i, h). inr (m, omega (arith, i), h)) (of_joined a b k y e)

pub of_mapped : {A B : Type 0} (f : A → B) (xs : List A) (k : ℕ) (y : B) → slice_get (map f xs) k ≡ Some y →
    (x : A) × (slice_get xs k ≡ Some x) × (y ≡ f x)
of_mapped f [] k y e = cc
of_mapped f (x ∷ xs) zero y e = (x, refl, sym (some_same (f x) y e))
of_mapped f (x ∷ xs) (suc k) y e = of_mapped f xs k y e

pub mapped : {A B : Type 0} (f : A → B) (xs : List A) (k : ℕ) (x : A) → slice_get xs k ≡ Some x → slice_get (map f xs) k ≡ Some (f x)
mapped f xs k x e = slice_get-map f xs k ∙ ap (option_map f) e

-- pieces f x of the sizes told, for the members x of a list
module _ {A B : Type 0} (f : A → List B) (size : A → ℕ) (sized : (x : A) → length (f x) ≡ size x) where
  pub piece_at : (xs : List A) (i j : ℕ) (x : A) (y : B) → slice_get xs i ≡ Some x → slice_get (f x) j ≡ Some y →
      slice_get (flat_map f xs) (sum_by size (take i xs) + j) ≡ Some y
  piece_at [] i j x y e k = cc
  piece_at (z ∷ xs) zero j x y e k =
      let here : 0 + j ≡ j = omega arith in
      rw (flat_map-cons f z xs, here) (slice_get_append_left (f z) (flat_map f xs) j y (subst (λ q. slice_get (f q) j ≡ Some y) (sym (some_same z x e)) k))
  piece_at (z ∷ xs) (suc i) j x y e k =
      let place : sum_by size (z ∷ take i xs) + j ≡ length (f z) + (sum_by size (take i xs) + j) = omega (arith, sum_by-cons size z (take i xs), sized z) in
      rw (flat_map-cons f z xs, place) (slice_get_append_right (f z) (flat_map f xs) (sum_by size (take i xs) + j) ∙ piece_at xs i j x y e k)

  -- the number is that of a member and of a place in its piece
  pub record IsPieceAt (xs : List A) (y : B) (k : ℕ) : Type 0 where
    pub member : A
    pub i : ℕ
    pub j : ℕ
    pub of_list : slice_get xs i ≡ Some member
    pub of_piece : slice_get (f member) j ≡ Some y
    pub place : k ≡ sum_by size (take i xs) + j

  pub piece_of : (xs : List A) (k : ℕ) (y : B) → slice_get (flat_map f xs) k ≡ Some y → IsPieceAt xs y k
  piece_of [] k y e = cc
  piece_of (z ∷ xs) k y e = ⊎_elim
      (λ h. record { member = z; i = 0; j = k; of_list = refl; of_piece = h; place = omega arith })
      (λ (m, n, h). let p = piece_of xs m y h in record {
        member = p.member;
        i = suc p.i;
        j = p.j;
        of_list = p.of_list;
        of_piece = p.of_piece;
        place = omega (arith, n, p.place, sum_by-cons size z (take p.i xs), sized z);
      })
      (of_joined (f z) (flat_map f xs) k y (rw (flat_map-cons f z xs) at e))

  -- and of no other
  pub piece_of_one : (xs : List A) (i j m n : ℕ) (x z : A) → slice_get xs i ≡ Some x → slice_get xs m ≡ Some z → j < length (f x) → n < length (f z) →
      sum_by size (take i xs) + j ≡ sum_by size (take m xs) + n → (i ≡ m) × (j ≡ n)
  piece_of_one [] i j m n x z e k within also same = cc
  piece_of_one (y ∷ xs) zero j zero n x z e k within also same = (refl, omega (arith, same))
  piece_of_one (y ∷ xs) zero j (suc m) n x z e k within also same =
      let here : j < length (f y) = subst (λ q. j < length (f q)) (sym (some_same y x e)) within in
      absurd (omega (arith, here, same, sized y, sum_by-cons size y (take m xs)))
  piece_of_one (y ∷ xs) (suc i) j zero n x z e k within also same =
      let here : n < length (f y) = subst (λ q. n < length (f q)) (sym (some_same y z k)) also in
      absurd (omega (arith, here, same, sized y, sum_by-cons size y (take i xs)))
  piece_of_one (y ∷ xs) (suc i) j (suc m) n x z e k within also same =
      let rest : sum_by size (take i xs) + j ≡ sum_by size (take m xs) + n = omega (arith, same, sum_by-cons size y (take i xs), sum_by-cons size y (take m xs)) in
      let (a, b) = piece_of_one xs i j m n x z e k within also rest in (ap suc a, b)

-- Sums

pub sum_same : {A : Type 0} (f g : A → ℕ) (xs : List A) → ((x : A) → x ∈ xs → f x ≡ g x) → sum_by f xs ≡ sum_by g xs
sum_same f g [] h = refl
sum_same f g (x ∷ xs) h =
    omega (arith, sum_by-cons f x xs, sum_by-cons g x xs, h x (inl refl), sum_same f g xs (λ y m. h y (inr m)))

pub sum_mapped : {A B : Type 0} (f : B → ℕ) (g : A → B) (xs : List A) → sum_by f (map g xs) ≡ sum_by (λ x. f (g x)) xs
sum_mapped f g [] = refl
sum_mapped f g (x ∷ xs) = omega (arith, sum_by-cons f (g x) (map g xs), sum_by-cons (λ x. f (g x)) x xs, sum_mapped f g xs)

pub sum_pieces : {A B : Type 0} (f : B → ℕ) (g : A → List B) (xs : List A) → sum_by f (flat_map g xs) ≡ sum_by (λ x. sum_by f (g x)) xs
sum_pieces f g [] = refl
sum_pieces f g (x ∷ xs) = omega (
  arith,
  ap (sum_by f) (flat_map-cons g x xs),
  sum_by-append f (g x) (flat_map g xs),
  sum_by-cons (λ x. sum_by f (g x)) x xs,
  sum_pieces f g xs,
)

pub sum_each_with_each : {A B C : Type 0} (f : C → ℕ) (h : A → B → C) (xs : List A) (ys : List B) →
    sum_by f (each_with_each h xs ys) ≡ sum_by (λ x. sum_by (λ y. f (h x y)) ys) xs
sum_each_with_each f h [] ys = refl
sum_each_with_each f h (x ∷ xs) ys = omega (
  arith,
  sum_by-append f (map (h x) ys) (each_with_each h xs ys),
  sum_mapped f (h x) ys,
  sum_by-cons (λ x. sum_by (λ y. f (h x y)) ys) x xs,
  sum_each_with_each f h xs ys,
)

sum_none : {A : Type 0} (xs : List A) → sum_by (λ x. 0) xs ≡ 0
sum_none [] = refl
sum_none (x ∷ xs) = omega (arith, sum_by-cons (λ x. 0) x xs, sum_none xs)

sum_both : {A : Type 0} (f g : A → ℕ) (xs : List A) → sum_by (λ x. f x + g x) xs ≡ sum_by f xs + sum_by g xs
sum_both f g [] = refl
sum_both f g (x ∷ xs) = omega (arith, sum_by-cons (λ x. f x + g x) x xs, sum_by-cons f x xs, sum_by-cons g x xs, sum_both f g xs)

-- the order of two sums does not count
pub sum_swap : {A B : Type 0} (g : A → B → ℕ) (xs : List A) (ys : List B) →
    sum_by (λ x. sum_by (λ y. g x y) ys) xs ≡ sum_by (λ y. sum_by (λ x. g x y) xs) ys
sum_swap g [] ys = sym (sum_none ys)
sum_swap g (x ∷ xs) ys = omega (
  arith,
  sum_by-cons (λ x. sum_by (λ y. g x y) ys) x xs,
  sum_swap g xs ys,
  sum_both (λ y. g x y) (λ y. sum_by (λ x. g x y) xs) ys,
  sum_same (λ y. sum_by (λ x. g x y) (x ∷ xs)) (λ y. g x y + sum_by (λ x. g x y) xs) ys (λ y m. sum_by-cons (λ x. g x y) x xs),
)

pub length_is_sum : {A : Type 0} (xs : List A) → length xs ≡ sum_by (λ x. 1) xs
length_is_sum [] = refl
length_is_sum (x ∷ xs) = omega (arith, sum_by-cons (λ x. 1) x xs, length_is_sum xs)
