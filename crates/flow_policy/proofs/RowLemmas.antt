-- Rows in order, and the part of them that has a key.
use Rattle.std.proofs.Common.{◌≡◌, ℕ, zero, suc, ◌+◌, ◌-◌, ◌<◌, ◌≤◌, true, false, List, [], ◌∷◌, ◌++◌, length, take, drop, get_or, refl, sym, ap, ◌∙◌, subst, inl, inr, arith, ⊎_elim, leb, ltb, take-append-drop}
use Rattle.std.specs.List.{AllWithin}
use Rattle.std.specs.List.Sorted.{IsPartitionPoint, IsNonDecreasingBy}
use Rattle.std.proofs.lemmas.List.{take_all, length-drop}
use Rattle.std.proofs.lemmas.List.Sorted.{IsNonDecreasingBy-take, IsNonDecreasingBy-drop}
use borrow.Author.Tests.{ltb-true, ltb-false, leb-true, leb-false}
use Rattle.flow_model.specs.Lists.{◌∈◌, Each}
use Rattle.flow_model.proofs.Lists.{mem-append, mem_append_left, mem_append_right, each_member, each_from_members, each_parts}
use Rattle.flow_policy.specs.Ties.{Rises}
use Rattle.flow_policy.specs.Tables.{IsPartOf}

-- what holds at each place up to a bound holds of each of so many

pub each_taken : {A : Type 0} (P : A → Type 0) (xs : List A) (n : ℕ) → ((k : ℕ) (d : A) → k < n → P (get_or xs k d)) → n ≤ length xs → Each P (take n xs)
each_taken P [] zero h few = tt
each_taken P [] (suc n) h few = tt
each_taken P (x ∷ xs) zero h few = tt
each_taken P (x ∷ xs) (suc n) h few = (h zero x (omega arith), each_taken P xs n (λ k d lt. h (suc k) d (omega arith)) (omega arith))

pub each_dropped : {A : Type 0} (P : A → Type 0) (xs : List A) (n : ℕ) → ((k : ℕ) (d : A) → n ≤ k → k < length xs → P (get_or xs k d)) → Each P (drop n xs)
each_dropped P [] zero h = tt
each_dropped P [] (suc n) h = tt
each_dropped P (x ∷ xs) zero h = (h zero x (omega arith) (omega arith), each_dropped P xs zero (λ k d le lt. h (suc k) d (omega arith) (omega arith)))
each_dropped P (x ∷ xs) (suc n) h = each_dropped P xs n (λ k d le lt. h (suc k) d (omega arith) (omega arith))

-- a list about a place of it
pub around : {A : Type 0} (l : List A) (k : ℕ) (d : A) → k < length l → l ≡ take k l ++ get_or l k d ∷ drop (k + 1) l
around [] k d lt = absurd (omega arith)
around (x ∷ l) zero d lt = let one : suc 0 ≡ 0 + 1 = omega arith in ap (λ n. x ∷ drop n (x ∷ l)) one
around (x ∷ l) (suc k) d lt = let one : suc (k + 1) ≡ suc k + 1 = omega arith in ap (λ r. x ∷ r) (around l k d (omega arith)) ∙ ap (λ n. take (suc k) (x ∷ l) ++ get_or l k d ∷ drop n (x ∷ l)) one

both_ways : (a b : ℕ) → b ≤ a → a ≤ b → a ≡ b
both_ways a b low high = omega arith

-- the part behind the keys below and before the keys above
pub part_at : {A : Type 0} (key : A → ℕ) (k : ℕ) (rows : List A) (start count : ℕ) → start ≤ length rows → count ≤ length (drop start rows) →
    AllWithin (λ row. ltb (key row) k ≡ true) rows 0 start → AllWithin (λ row. ltb (key row) k ≡ false) rows start (length rows) →
    AllWithin (λ row. leb (key row) k ≡ true) (drop start rows) 0 count → AllWithin (λ row. leb (key row) k ≡ false) (drop start rows) count (length (drop start rows)) →
    IsPartOf key k rows (take count (drop start rows))
part_at {A} key k rows start count within inside below from upto above =
    let rest = drop start rows in
    let middle = take count rest in
    let low = each_dropped (λ r. k ≤ key r) rows start (λ i d le lt. ltb-false (key (get_or rows i d)) k (from i d le lt)) in
    let high = each_taken (λ r. key r ≤ k) rest count (λ i d lt. leb-true (key (get_or rest i d)) k (upto i d (omega arith) lt)) inside in
    record {
      front = take start rows;
      back = drop count rest;
      cut = sym (take-append-drop start rows) ∙ ap (λ l. take start rows ++ l) (sym (take-append-drop count rest));
      before = each_taken (λ r. key r < k) rows start (λ i d lt. ltb-true (key (get_or rows i d)) k (below i d (omega arith) lt)) within;
      here = each_from_members (λ r. key r ≡ k) middle (λ row m. both_ways (key row) k
          (each_member (λ r. k ≤ key r) rest low row (subst (λ l. row ∈ l) (take-append-drop count rest) (mem_append_left row middle (drop count rest) m)))
          (each_member (λ r. key r ≤ k) middle high row m));
      behind = each_dropped (λ r. k < key r) rest count (λ i d le lt. leb-false (key (get_or rest i d)) k (above i d le lt));
    }

pub each_at_places : {A : Type 0} (P : A → Type 0) (xs : List A) → ((k : ℕ) (d : A) → k < length xs → P (get_or xs k d)) → Each P xs
each_at_places P [] h = tt
each_at_places P (x ∷ xs) h = (h zero x (omega arith), each_at_places P xs (λ k d lt. h (suc k) d (omega arith)))

place_of_each : {A : Type 0} (P : A → Type 0) (xs : List A) (k : ℕ) (d : A) → Each P xs → k < length xs → P (get_or xs k d)
place_of_each P [] k d h lt = absurd (omega arith)
place_of_each P (x ∷ xs) zero d h lt = h.0
place_of_each P (x ∷ xs) (suc k) d h lt = place_of_each P xs k d h.1 (omega arith)

-- what holds between any two places holds along the list
pub rises_by_places : {A : Type 0} (R : A → A → Type 0) (xs : List A) → ((i j : ℕ) (d : A) → i < j → j < length xs → R (get_or xs i d) (get_or xs j d)) → Rises R xs
rises_by_places R [] h = tt
rises_by_places R (x ∷ xs) h =
    (each_at_places (R x) xs (λ k d lt. h zero (suc k) d (omega arith) (omega arith)), rises_by_places R xs (λ i j d less lt. h (suc i) (suc j) d (omega arith) (omega arith)))

-- keys that never fall, at any two places
pub keys_at_places : {A : Type 0} (key : A → ℕ) (xs : List A) → Rises (λ a b. key a ≤ key b) xs → IsNonDecreasingBy key xs
keys_at_places key [] h = λ i j d le lt. absurd (omega arith)
keys_at_places {A} key (x ∷ xs) h = at (keys_at_places key xs h.1)
  where
    at : IsNonDecreasingBy key xs → (i j : ℕ) (d : A) → i ≤ j → j < length (x ∷ xs) → key (get_or (x ∷ xs) i d) ≤ key (get_or (x ∷ xs) j d)
    at later zero zero d le lt = omega arith
    at later zero (suc j) d le lt = place_of_each (λ y. key x ≤ key y) xs j d h.0 (omega arith)
    at later (suc i) zero d le lt = absurd (omega arith)
    at later (suc i) (suc j) d le lt = later i j d (omega arith) (omega arith)

-- of a part of rows that rise, the rows rise
pub rises_right : {A : Type 0} (R : A → A → Type 0) (a b : List A) → Rises R (a ++ b) → Rises R b
rises_right R [] b h = h
rises_right R (x ∷ a) b h = rises_right R a b h.1

pub rises_left : {A : Type 0} (R : A → A → Type 0) (a b : List A) → Rises R (a ++ b) → Rises R a
rises_left R [] b h = tt
rises_left R (x ∷ a) b h = ((each_parts (R x) a b h.0).0, rises_left R a b h.1)

pub rises_to : {A : Type 0} (R S : A → A → Type 0) (xs : List A) → ((x y : A) → x ∈ xs → y ∈ xs → R x y → S x y) → Rises R xs → Rises S xs
rises_to R S [] to h = tt
rises_to R S (x ∷ xs) to h =
    (each_from_members (S x) xs (λ y m. to x y (inl refl) (inr m) (each_member (R x) xs h.0 y m)), rises_to R S xs (λ a b m k. to a b (inr m) (inr k)) h.1)

pub part_rises : {A : Type 0} (R : A → A → Type 0) (key : A → ℕ) (k : ℕ) (rows part : List A) → IsPartOf key k rows part → Rises R rows → Rises R part
part_rises R key k rows part p h = rises_left R part p.back (rises_right R p.front (part ++ p.back) (subst (Rises R) p.cut h))

-- the rows of the key are in its part, and only they
pub in_part : {A : Type 0} (key : A → ℕ) (k : ℕ) (rows part : List A) (row : A) → IsPartOf key k rows part → row ∈ rows → key row ≡ k → row ∈ part
in_part key k rows part row p m e = ⊎_elim
    (λ f. absurd (omega (arith, each_member (λ r. key r < k) p.front p.before row f, e)))
    (λ r. ⊎_elim (λ h. h) (λ b. absurd (omega (arith, each_member (λ r. k < key r) p.back p.behind row b, e))) (mem-append row part p.back r))
    (mem-append row p.front (part ++ p.back) (subst (λ l. row ∈ l) p.cut m))

pub from_part : {A : Type 0} (key : A → ℕ) (k : ℕ) (rows part : List A) (row : A) → IsPartOf key k rows part → row ∈ part → (row ∈ rows) × (key row ≡ k)
from_part key k rows part row p m =
    (subst (λ l. row ∈ l) (sym p.cut) (mem_append_right row p.front (part ++ p.back) (mem_append_left row part p.back m)), each_member (λ r. key r ≡ k) part p.here row m)

-- a slice from a place to the end is all behind that place
rest_is : {A : Type 0} (xs : List A) (n : ℕ) → take (length xs - n) (drop n xs) ≡ drop n xs
rest_is xs n = take_all (length xs - n) (drop n xs) (omega (arith, length-drop n xs))

abbrev pub rest_of : {A : Type 0} → List A → ℕ → List A
rest_of xs n = take (length xs - n) (drop n xs)

-- what a search for the first key that is not below, and then one for the first above, gives
pub part_found : {A : Type 0} (key : A → ℕ) (k : ℕ) (rows lent : List A) (start count : ℕ) → lent ≡ rows → start ≤ length lent → count ≤ length (rest_of lent start) →
    IsPartitionPoint (λ y. ltb (key y) k ≡ true) (λ y. ltb (key y) k ≡ false) lent start →
    IsPartitionPoint (λ y. leb (key y) k ≡ true) (λ y. leb (key y) k ≡ false) (rest_of lent start) count → IsPartOf key k rows (take count (rest_of lent start))
part_found key k rows lent start count same within inside first second =
    let is = rest_is lent start in
    let at = subst (λ l. IsPartitionPoint (λ y. leb (key y) k ≡ true) (λ y. leb (key y) k ≡ false) l count) is second in
    subst (λ l. IsPartOf key k l (take count (rest_of lent start))) same
    (subst (λ l. IsPartOf key k lent (take count l)) (sym is)
    (part_at key k lent start count within (subst (λ l. count ≤ length l) is inside) first.0 first.1 at.0 at.1))

-- of keys that never fall, those behind a place never fall
pub rest_rises : {A : Type 0} (key : A → ℕ) (rows lent : List A) (start : ℕ) → lent ≡ rows → IsNonDecreasingBy key rows → IsNonDecreasingBy key (rest_of lent start)
rest_rises key rows lent start same h = IsNonDecreasingBy-take key (length lent - start) (drop start lent) (IsNonDecreasingBy-drop key start lent (subst (IsNonDecreasingBy key) (sym same) h))
