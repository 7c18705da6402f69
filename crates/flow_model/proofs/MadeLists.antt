-- Lists made of others: mapped, joined, filtered, numbered, reordered.
use Rattle.std.proofs.Common.{◌≡◌, ◌≢◌, ℕ, zero, suc, ◌+◌, ◌*◌, ◌<◌, ◌≤◌, ◌⊎◌, List, [], ◌∷◌, ◌++◌, map, length, refl, sym, ap, ◌∙◌, inl, inr, ⊎_elim, append_assoc, append-nil, flat_map, arith, slice_get, Option, Some, None, zero-add, suc-add, zero-mul, length-append, Bool, true, false, find, filter_map, filter, subst, true≢false}
use Rattle.std.proofs.lemmas.Bool.{cases_Bool, cases_eq, or_from, or_left, or_right, or_cases}
use Rattle.std.proofs.lemmas.Grind.{flat_map-append}
use Rattle.std.proofs.lemmas.List.{length-map}
use Rattle.std.proofs.lemmas.Option.{slice_get-map}
use Rattle.std.specs.List.{list_any}
use Rattle.flow_model.specs.Lists.{◌∈◌, Each, AreDistinct, Begins, StandsBefore, IsOrderOf, joined, numbers_from, each_with_each}
use Rattle.flow_model.proofs.Lists.{mem_append_left, mem_append_right, mem-append, mem_here, mem_without, slice_get_append_left, distinct_apart, distinct_right}
use Rattle.flow_model.specs.Decided.{cons_same, not_empty, order_of_none}

-- Mapped

pub mem-map : {A B : Type 0} (f : A → B) (x : A) (xs : List A) → x ∈ xs → f x ∈ map f xs
mem-map f x [] h = absurd h
mem-map f x (y ∷ ys) h = grind (arith, h, mem-map f x ys)

pub of_map : {A B : Type 0} (f : A → B) (y : B) (xs : List A) → y ∈ map f xs → (x : A) × (x ∈ xs) × (y ≡ f x)
of_map f y [] h = absurd h
of_map f y (x ∷ xs) h = grind (arith, h, of_map f y xs)

pub mem-each_with_each : {A B C : Type 0} (f : A → B → C) (x : A) (y : B) (xs : List A) (ys : List B) →
    x ∈ xs → y ∈ ys → f x y ∈ each_with_each f xs ys
mem-each_with_each f x y [] ys h k = absurd h
mem-each_with_each f x y (z ∷ xs) ys h k =
    let fact = mem_append_right (f x y) (map (f z) ys) in
    grind (arith, h, k, mem-map (f z) y ys, mem-each_with_each f x y xs ys, mem_append_left (f x y) (map (f z) ys))

pub of_each_with_each : {A B C : Type 0} (f : A → B → C) (z : C) (xs : List A) (ys : List B) →
    z ∈ each_with_each f xs ys → (x : A) × ((y : B) × (x ∈ xs) × (y ∈ ys) × (z ≡ f x y))
of_each_with_each f z [] ys h = absurd h
of_each_with_each f z (x ∷ xs) ys h = grind (arith, mem-append z (map (f x) ys) _ h, of_map (f x) z ys, of_each_with_each f z xs ys)

pub mem-flat_map : {A B : Type 0} (f : A → List B) (x : A) (y : B) (xs : List A) → x ∈ xs → y ∈ f x → y ∈ flat_map f xs
mem-flat_map f x y [] h k = absurd h
mem-flat_map f x y (z ∷ xs) h k = grind (arith, h, k, mem-flat_map f x y xs, mem_append_left y (f z), mem_append_right y (f z))

pub flat_map_end : {A B : Type 0} (f : A → List B) (xs : List A) (x : A) → flat_map f (xs ++ x ∷ []) ≡ flat_map f xs ++ f x
flat_map_end f xs x = flat_map-append f xs (x ∷ []) ∙ ap (λ l. flat_map f xs ++ l) (append-nil (f x))

pub of_flat_map : {A B : Type 0} (f : A → List B) (y : B) (xs : List A) → y ∈ flat_map f xs → (x : A) × (x ∈ xs) × (y ∈ f x)
of_flat_map f y [] h = absurd h
of_flat_map f y (z ∷ xs) h = grind (arith, mem-append y (f z) _ h, of_flat_map f y xs)

-- Places

pub slice_get_append_right : {A : Type 0} (xs ys : List A) (i : ℕ) → slice_get (xs ++ ys) (length xs + i) ≡ slice_get ys i
slice_get_append_right [] ys i = ap (slice_get ys) (zero-add i)
slice_get_append_right (z ∷ xs) ys i = ap (slice_get (z ∷ (xs ++ ys))) (suc-add (length xs) i) ∙ slice_get_append_right xs ys i

pub length-each_with_each : {A B C : Type 0} (f : A → B → C) (xs : List A) (ys : List B) →
    length (each_with_each f xs ys) ≡ length xs * length ys
length-each_with_each f [] ys = sym (zero-mul (length ys))
length-each_with_each f (x ∷ xs) ys =
    omega (arith, length-append (map (f x) ys) (each_with_each f xs ys), length-map ys (f x), length-each_with_each f xs ys)

-- the member of the first list is at i, and that of the second at j
pub slice_get-each_with_each : {A B C : Type 0} (f : A → B → C) (xs : List A) (ys : List B) (i j : ℕ) (x : A) (y : B) →
    slice_get xs i ≡ Some x → slice_get ys j ≡ Some y → slice_get (each_with_each f xs ys) (i * length ys + j) ≡ Some (f x y)
slice_get-each_with_each f [] ys i j x y e k = cc
slice_get-each_with_each f (z ∷ xs) ys zero j x y e k =
    let same : z ≡ x = cc in
    grind (arith, k, slice_get-map (f z) ys j, slice_get_append_left (map (f z) ys) (each_with_each f xs ys) j (f x y))
slice_get-each_with_each f (z ∷ xs) ys (suc i) j x y e k =
    let fact = slice_get_append_right (map (f z) ys) (each_with_each f xs ys) (i * length ys + j) in
    grind (arith, length-map ys (f z), slice_get-each_with_each f xs ys i j x y e k)

-- Joined

pub joined-append : {A : Type 0} (xs ys : List (List A)) → joined (xs ++ ys) ≡ joined xs ++ joined ys
joined-append [] ys = refl
joined-append (x ∷ xs) ys = grind (arith, joined-append xs ys, append_assoc x (joined xs) (joined ys))

pub mem_joined : {A : Type 0} (x : A) (list : List (List A)) (item : List A) → item ∈ list → x ∈ item → x ∈ joined list
mem_joined x [] item m h = absurd m
mem_joined x (y ∷ list) item m h = grind (arith, m, h, mem_append_left x y (joined list), mem_append_right x y (joined list), mem_joined x list item)

-- the list in which a member of the joined lists stands
pub list_having : {A : Type 0} (x : A) (list : List (List A)) → x ∈ joined list → (item : List A) × (item ∈ list) × (x ∈ item)
list_having x [] h = absurd h
list_having x (y ∷ list) h = grind (arith, mem-append x y (joined list) h, list_having x list)

-- where the joined lists are distinct, two with a common member are one
pub joined_apart : {A : Type 0} (list : List (List A)) (a b : List A) (x : A) → AreDistinct (joined list) → a ∈ list → b ∈ list → x ∈ a → x ∈ b → a ≡ b
joined_apart [] a b x d m l h k = absurd m
joined_apart (y ∷ list) a b x d m l h k =
    grind (arith, m, l, h, k, distinct_apart y (joined list) d x, mem_joined x list a, mem_joined x list b, joined_apart list a b x (distinct_right y (joined list) d))

-- Numbers in a row

pub numbers_from_least : (first count n : ℕ) → n ∈ numbers_from first count → first ≤ n
numbers_from_least first zero n h = absurd h
numbers_from_least first (suc count) n h = grind (arith, h, numbers_from_least (first + 1) count n)

pub numbers_from_below : (first count n : ℕ) → n ∈ numbers_from first count → n < first + count
numbers_from_below first zero n h = absurd h
numbers_from_below first (suc count) n h = grind (arith, h, numbers_from_below (first + 1) count n)

pub mem-numbers_from : (first count n : ℕ) → first ≤ n → n < first + count → n ∈ numbers_from first count
mem-numbers_from first zero n low high = absurd (omega arith)
mem-numbers_from first (suc count) n low high =
    ⊎_elim inl (λ other. inr (mem-numbers_from (first + 1) count n (omega arith) (omega arith))) (cases_eq n first)

pub length-numbers_from : (first count : ℕ) → length (numbers_from first count) ≡ count
length-numbers_from first zero = refl
length-numbers_from first (suc count) = ap (λ n. suc n) (length-numbers_from (first + 1) count)

pub numbers_from_more : (first count : ℕ) → numbers_from first (suc count) ≡ numbers_from first count ++ (first + count) ∷ []
numbers_from_more first zero = grind arith
numbers_from_more first (suc count) = grind (arith, numbers_from_more (first + 1) count)

pub distinct-numbers_from : (first count : ℕ) → AreDistinct (numbers_from first count)
distinct-numbers_from first zero = tt
distinct-numbers_from first (suc count) =
    (λ h. omega (arith, numbers_from_least (first + 1) count first h), distinct-numbers_from (first + 1) count)

-- What is found

pub some_same : {A : Type 0} (a b : A) → Some a ≡ Some b → a ≡ b
some_same a b e = cc

pub of_find : {A : Type 0} (p : A → Bool) (xs : List A) (x : A) → find p xs ≡ Some x → (x ∈ xs) × (p x ≡ true)
of_find p [] x e = cc
of_find p (y ∷ ys) x e = grind (arith, cases_Bool (p y), e, of_find p ys x)

pub not_found : {A : Type 0} (p : A → Bool) (xs : List A) (x : A) → find p xs ≡ None → x ∈ xs → ¬ (p x ≡ true)
not_found p [] x e m h = m
not_found p (y ∷ ys) x e m h = grind (arith, cases_Bool (p y), e, m, h, not_found p ys x)

pub found_none : {A : Type 0} (p : A → Bool) (xs : List A) → ((x : A) → x ∈ xs → p x ≡ false) → find p xs ≡ None
found_none p [] none = refl
found_none p (x ∷ xs) none = grind (arith, none x (inl refl), found_none p xs (λ y m. none y (inr m)))

pub some_passes : {A : Type 0} (p : A → Bool) (x : A) (xs : List A) → x ∈ xs → p x ≡ true → list_any p xs ≡ true
some_passes p x [] m h = absurd m
some_passes p x (y ∷ ys) (inl e) h = or_left (p y) (list_any p ys) (subst (λ z. p z ≡ true) e h)
some_passes p x (y ∷ ys) (inr m) h = or_right (p y) (list_any p ys) (some_passes p x ys m h)

pub passing_member : {A : Type 0} (p : A → Bool) (xs : List A) → list_any p xs ≡ true → (x : A) × (x ∈ xs) × (p x ≡ true)
passing_member p [] e = cc
passing_member p (x ∷ xs) e =
    ⊎_elim (λ h. (x, inl refl, h)) (λ h. let (y, m, k) = passing_member p xs h in (y, inr m, k)) (or_cases (p x) (list_any p xs) e)

pub none_passes : {A : Type 0} (p : A → Bool) (xs : List A) → list_any p xs ≡ false → (x : A) → x ∈ xs → p x ≡ false
none_passes p xs e x m = ⊎_elim (λ h. absurd (true≢false (sym (some_passes p x xs m h) ∙ e))) (λ h. h) (cases_Bool (p x))

pub each_fails : {A : Type 0} (p : A → Bool) (xs : List A) → ((x : A) → x ∈ xs → p x ≡ false) → list_any p xs ≡ false
each_fails p [] each = refl
each_fails p (x ∷ xs) each = or_from (p x) (list_any p xs) (each x (inl refl)) (each_fails p xs (λ y m. each y (inr m)))

-- what has Q and passes the test has P
pub each-filter : {A : Type 0} (P Q : A → Type 0) (p : A → Bool) (xs : List A) → ((x : A) → p x ≡ true → Q x → P x) →
    Each Q xs → Each P (filter p xs)
each-filter P Q p [] to h = tt
each-filter P Q p (x ∷ xs) to (h, t) = grind (arith, cases_Bool (p x), h, to x, each-filter P Q p xs to t)

-- What a filter that maps keeps

-- the first member is left out, or is kept as what it maps to
kept_first : {A B : Type 0} (h : A → Option B) (z : A) (zs : List A) →
    (filter_map h (z ∷ zs) ≡ filter_map h zs) ⊎ ((w : B) × (h z ≡ Some w) × (filter_map h (z ∷ zs) ≡ w ∷ filter_map h zs))
kept_first {A} {B} h z zs = step (h z) refl
  where
    step : (o : Option B) → h z ≡ o → (filter_map h (z ∷ zs) ≡ filter_map h zs) ⊎ ((w : B) × (h z ≡ Some w) × (filter_map h (z ∷ zs) ≡ w ∷ filter_map h zs))
    step None k = inl (rw k refl)
    step (Some w) k = inr (w, k, rw k refl)

pub mem-filter_map : {A B : Type 0} (h : A → Option B) (x : A) (y : B) (xs : List A) → x ∈ xs → h x ≡ Some y → y ∈ filter_map h xs
mem-filter_map h x y [] m k = absurd m
mem-filter_map h x y (z ∷ zs) m k = grind (arith, m, k, kept_first h z zs, mem-filter_map h x y zs)

pub of_filter_map : {A B : Type 0} (h : A → Option B) (y : B) (xs : List A) → y ∈ filter_map h xs → (x : A) × (x ∈ xs) × (h x ≡ Some y)
of_filter_map h y [] m = absurd m
of_filter_map h y (z ∷ zs) m = grind (arith, m, kept_first h z zs, of_filter_map h y zs)

pub before-filter_map : {A B : Type 0} (h : A → Option B) (x y : A) (a b : B) (t : List A) →
    StandsBefore x y t → h x ≡ Some a → h y ≡ Some b → StandsBefore a b (filter_map h t)
before-filter_map h x y a b [] s i j = absurd s
before-filter_map h x y a b (z ∷ t) s i j =
    grind (arith, s, i, j, kept_first h z t, mem-filter_map h y b t, before-filter_map h x y a b t)

pub of_before-filter_map : {A B : Type 0} (h : A → Option B) (a b : B) (t : List A) → StandsBefore a b (filter_map h t) →
    (x : A) × ((y : A) × StandsBefore x y t × (h x ≡ Some a) × (h y ≡ Some b))
of_before-filter_map h a b [] s = absurd s
of_before-filter_map h a b (z ∷ t) s = grind (arith, s, kept_first h z t, of_filter_map h b t, of_before-filter_map h a b t)

-- where what it keeps is distinct, two members that map to the same are one
pub same_source : {A B : Type 0} (h : A → Option B) (t : List A) → AreDistinct (filter_map h t) →
    (x y : A) (a : B) → x ∈ t → y ∈ t → h x ≡ Some a → h y ≡ Some a → x ≡ y
same_source h [] d x y a m k i j = absurd m
same_source h (z ∷ t) d x y a m k i j =
    grind (arith, m, k, kept_first h z t, d, same_source h t, mem-filter_map h x a t, mem-filter_map h y a t)

-- where no two different members map to the same, what is kept is distinct
pub distinct-filter_map : {A B : Type 0} (h : A → Option B) (t : List A) → AreDistinct t →
    ((x y : A) (e : B) → x ∈ t → y ∈ t → x ≢ y → h x ≡ Some e → h y ≢ Some e) → AreDistinct (filter_map h t)
distinct-filter_map h [] d apart = tt
distinct-filter_map h (z ∷ t) (new, d) apart =
    let rest = distinct-filter_map h t d (λ x y e m k. apart x y e (inr m) (inr k)) in
    elim (kept_first h z t) [
      | inl k ↦ rw k rest
      | inr (e, k, l) ↦ rw l (λ m. let (y, n, i) = of_filter_map h e t m in apart z y e (inl refl) (inr n) (λ same. new (rw same n)) k i, rest)
    ]

-- Fronts and orders

pub begins_front : {A : Type 0} (t front more : List A) → Begins t (front ++ more) → Begins t front
begins_front t front more (rest, e) = (more ++ rest, e ∙ append_assoc front more rest)

pub same_order : {A : Type 0} (xs : List A) → IsOrderOf xs xs
same_order [] = refl
same_order (x ∷ xs) = ([], xs, refl, same_order xs)

pub order_of_one : {A : Type 0} (order : List A) (x : A) → IsOrderOf order (x ∷ []) → order ≡ x ∷ []
order_of_one [] x h = cc
order_of_one (y ∷ order) x ([], back, e, h) = grind (arith, e, order_of_none order, h)
order_of_one (y ∷ order) x (z ∷ front, back, e, h) = absurd (not_empty front y back (cons_same x z [] (front ++ y ∷ back) e).1)

pub order_member : {A : Type 0} (x : A) (order list : List A) → IsOrderOf order list → x ∈ order → x ∈ list
order_member x [] list o m = absurd m
order_member x (y ∷ order) list (a, b, e, o) m = rw e (grind (arith, m, mem_here x a b, mem_without x y a b, order_member x order (a ++ b) o))

-- one list cut in two ways: the marked member is in the first half or in the second
pub two_cuts : {A : Type 0} (a b front : List A) (y : A) (back : List A) → a ++ b ≡ front ++ y ∷ back →
    ((m : List A) × (a ≡ front ++ y ∷ m) × (back ≡ m ++ b)) ⊎ ((m : List A) × (front ≡ a ++ m) × (b ≡ m ++ y ∷ back))
two_cuts [] b front y back e = inr (front, refl, e)
two_cuts (x ∷ a) b [] y back e = inl (a, cc, cc)
two_cuts (x ∷ a) b (z ∷ front) y back e =
    ⊎_elim (λ (m, p, q). inl (m, cc, q)) (λ (m, p, q). inr (m, cc, q)) (two_cuts a b front y back (cons_same x z (a ++ b) (front ++ y ∷ back) e).1)

-- one more member, last in the order and anywhere in the list
pub order_with_last : {A : Type 0} (order : List A) (x : A) (a b : List A) → IsOrderOf order (a ++ b) →
    IsOrderOf (order ++ x ∷ []) (a ++ x ∷ b)
order_with_last [] x a b h = (a, b, refl, h)
order_with_last (y ∷ order) x a b (front, back, e, h) = ⊎_elim
    (λ (m, p, q).
    let rest = order_with_last order x (front ++ m) b (rw (append_assoc front m b, ← q) h) in
    (front, m ++ x ∷ b, rw p (append_assoc front (y ∷ m) (x ∷ b)), rw (← append_assoc front m (x ∷ b)) rest))
    (λ (m, p, q).
    let rest = order_with_last order x a (m ++ back) (rw (← append_assoc a m back, ← p) h) in
    (a ++ x ∷ m, back, rw (q, append_assoc a (x ∷ m) (y ∷ back)) refl, rw (append_assoc a (x ∷ m) back) rest))
    (two_cuts a b front y back e)
