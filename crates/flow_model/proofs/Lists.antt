-- Members of lists: what each has, and where they stand.
use Rattle.std.proofs.Common.{◌≡◌, ◌≢◌, ◌-◌, ◌<◌, ◌≤◌, ℕ, zero, suc, List, [], ◌∷◌, ◌++◌, ◌⊎◌, length, length-append, arith, slice_get, Some, None, get_or, refl, sym, ap, ◌∙◌, subst, inl, inr, ⊎_elim}
use Rattle.std.proofs.lemmas.Option.{slice_get-get_or}
use Rattle.flow_model.specs.Lists.{◌∈◌, Each, AreDistinct, StandsBefore}
use Rattle.flow_model.specs.Decided.{Decided, decide_in, decide_some}

pub mem_append_left : {A : Type 0} (x : A) (a b : List A) → x ∈ a → x ∈ (a ++ b)
mem_append_left x [] b h = absurd h
mem_append_left x (y ∷ a) b h = grind (arith, h, mem_append_left x a b)

pub mem_append_right : {A : Type 0} (x : A) (a b : List A) → x ∈ b → x ∈ (a ++ b)
mem_append_right x [] b h = h
mem_append_right x (y ∷ a) b h = inr (mem_append_right x a b h)

pub mem-append : {A : Type 0} (x : A) (a b : List A) → x ∈ (a ++ b) → (x ∈ a) ⊎ (x ∈ b)
mem-append x [] b h = inr h
mem-append x (y ∷ a) b h = grind (arith, h, mem-append x a b)

pub mem_swap : {A : Type 0} (x : A) (a b : List A) → x ∈ (a ++ b) → x ∈ (b ++ a)
mem_swap x a b m = ⊎_elim (mem_append_right x b a) (mem_append_left x b a) (mem-append x a b m)

-- a member of one of two lists, whichever it is
pub mem_by_halves : {A P Q : Type 0} (x : A) (a b : List A) → (P → x ∈ a) → (Q → x ∈ b) → P ⊎ Q → x ∈ (a ++ b)
mem_by_halves x a b f g = ⊎_elim (λ p. mem_append_left x a b (f p)) (λ q. mem_append_right x a b (g q))

-- the member in the middle
pub mem_here : {A : Type 0} (x : A) (a b : List A) → x ∈ (a ++ x ∷ b)
mem_here x a b = mem_append_right x a (x ∷ b) (inl refl)

-- a member of the list without that place is one of the whole
pub mem_without : {A : Type 0} (x y : A) (a b : List A) → x ∈ (a ++ b) → x ∈ (a ++ y ∷ b)
mem_without x y a b h = grind (arith, mem-append x a b h, mem_append_left x a (y ∷ b), mem_append_right x a (y ∷ b))

-- and a member of the whole is that one or in the rest
pub mem_with : {A : Type 0} (x y : A) (a b : List A) → x ∈ (a ++ y ∷ b) → (x ≡ y) ⊎ (x ∈ (a ++ b))
mem_with x y a b h = grind (arith, mem-append x a (y ∷ b) h, mem_append_left x a b, mem_append_right x a b)

pub no_members : {A : Type 0} (list : List A) → ((x : A) → ¬ (x ∈ list)) → list ≡ []
no_members [] h = refl
no_members (x ∷ list) h = absurd (h x (inl refl))

-- the place of a member
pub split_at : {A : Type 0} (x : A) (list : List A) → x ∈ list → (front back : List A) × (list ≡ front ++ x ∷ back)
split_at x [] h = absurd h
split_at x (y ∷ list) (inl e) = ([], list, ap (λ z. z ∷ list) (sym e))
split_at x (y ∷ list) (inr h) = let s = split_at x list h in (y ∷ s.0, s.1, ap (λ l. y ∷ l) s.2)

pub only_one : {A : Type 0} (x y : A) → x ∈ (y ∷ []) → x ≡ y
only_one x y = ⊎_elim (λ e. e) absurd

-- P of the list with any one member left out
abbrev pub LeavingOut : {A : Type 0} → (List A → Type 0) → List A → Type 0
LeavingOut {A} P list = (front : List A) (x : A) (back : List A) → list ≡ front ++ x ∷ back → P (front ++ back)

-- what holds of a list if it does with any one member left out holds of each list
pub by_leaving_out : {A : Type 0} (P : List A → Type 0) → ((list : List A) → LeavingOut P list → P list) → (list : List A) → P list
by_leaving_out {A} P step list = down (length list) list refl
  where
    down : (k : ℕ) (l : List A) → length l ≡ k → P l
    down zero l e = step l (λ front x back f. absurd (omega (arith, e, ap length f, length-append front (x ∷ back))))
    down (suc k) l e = step l (λ front x back f. down k (front ++ back) (omega (arith, e, ap length f, length-append front (x ∷ back), length-append front back)))

-- what each member has

pub each-append : {A : Type 0} (P : A → Type 0) (a b : List A) → Each P a → Each P b → Each P (a ++ b)
each-append P [] b h k = k
each-append P (x ∷ a) b h k = (h.0, each-append P a b h.1 k)

pub each_parts : {A : Type 0} (P : A → Type 0) (a b : List A) → Each P (a ++ b) → Each P a × Each P b
each_parts P [] b h = (tt, h)
each_parts P (x ∷ a) b h = let (k, l) = each_parts P a b h.1 in ((h.0, k), l)

pub each_member : {A : Type 0} (P : A → Type 0) (xs : List A) → Each P xs → (x : A) → x ∈ xs → P x
each_member P [] h x m = absurd m
each_member P (y ∷ ys) h x m = grind (arith, h, m, each_member P ys)

pub each_from_members : {A : Type 0} (P : A → Type 0) (xs : List A) → ((x : A) → x ∈ xs → P x) → Each P xs
each_from_members P [] h = tt
each_from_members P (y ∷ ys) h = (h y (inl refl), each_from_members P ys (λ x m. h x (inr m)))

pub each_to : {A : Type 0} (P Q : A → Type 0) (xs : List A) → ((x : A) → P x → Q x) → Each P xs → Each Q xs
each_to P Q [] to h = tt
each_to P Q (x ∷ xs) to (h, t) = (to x h, each_to P Q xs to t)

-- a member with P is found, or each member lacks it
pub find_member : {A : Type 0} (P : A → Type 0) → ((x : A) → Decided (P x)) → (list : List A) →
    ((x : A) × (x ∈ list) × P x) ⊎ ((x : A) → x ∈ list → ¬ (P x))
find_member P d list = ⊎_elim inl (λ n. inr (λ x m p. n (x, m, p))) (decide_some P d list)

-- Q is found at one of the members, or each of them has P
pub one_or_all : {A Q : Type 0} (P : A → Type 0) (list : List A) → ((x : A) → x ∈ list → Q ⊎ P x) → Q ⊎ ((x : A) → x ∈ list → P x)
one_or_all P [] f = inr (λ x m. absurd m)
one_or_all P (y ∷ list) f = ⊎_elim inl
    (λ p. ⊎_elim inl (λ all. inr (λ x. ⊎_elim (λ e. subst P (sym e) p) (all x))) (one_or_all P list (λ x m. f x (inr m))))
    (f y (inl refl))

-- the first member with P, and what stands around it
pub first_member : {A : Type 0} (P : A → Type 0) → ((x : A) → Decided (P x)) → (list : List A) (x : A) → x ∈ list → P x →
    (front : List A) × (first : A) × (back : List A) × (list ≡ front ++ first ∷ back) × P first × ((z : A) → z ∈ front → ¬ (P z))
first_member P d [] x m p = absurd m
first_member P d (y ∷ list) x m p = elim (d y) [
  | inl q ↦ ([], y, list, refl, q, λ z h. absurd h)
  | inr n ↦ (let (front, first, back, e, q, none) = first_member P d list x (grind (arith, m, n, p)) p in
      (y ∷ front, first, back, ap (λ l. y ∷ l) e, q, λ z h. grind (arith, h, n, none z)))
]

-- no member has P, or one of those that have it is the least of them
abbrev pub HasLeast : {A : Type 0} → (A → Type 0) → (A → A → Type 0) → List A → Type 0
HasLeast {A} P R list =
    ((x : A) → x ∈ list → ¬ (P x)) ⊎ ((x : A) × (x ∈ list) × P x × ((y : A) → y ∈ list → P y → R x y))

-- where of two members with P one is at most the other
pub least_in : {A : Type 0} (P : A → Type 0) (R : A → A → Type 0) → ((x : A) → Decided (P x)) → ((x : A) → R x x) → ((x y z : A) → R x y → R y z → R x z) →
    (list : List A) → ((x y : A) → x ∈ list → y ∈ list → P x → P y → R x y ⊎ R y x) → HasLeast P R list
least_in P R d same on [] either = inl (λ x m. absurd m)
least_in {A} P R d same on (y ∷ list) either = at (d y) (least_in P R d same on list (λ u v m n. either u v (inr m) (inr n)))
  where
    at : Decided (P y) → HasLeast P R list → HasLeast P R (y ∷ list)
    at (inr n) (inl f) = inl (λ x. grind (arith, n, f x))
    at (inr n) (inr (x, m, p, l)) = inr (x, inr m, p, λ z k q. grind (arith, n, k, q, l z))
    at (inl p) (inl f) = inr (y, inl refl, p, λ z k q. grind (arith, k, q, f z, same y))
    at (inl p) (inr (x, m, q, l)) = ⊎_elim
        (λ r. inr (y, inl refl, p, λ z k s. grind (arith, k, s, r, l z, same y, on y x z)))
        (λ r. inr (x, inr m, q, λ z k s. grind (arith, k, s, r, l z)))
        (either y x (inl refl) (inr m) p q)

-- the last member of a list that has one
pub last_of : {A : Type 0} (list : List A) (x : A) → x ∈ list → (front : List A) × (last : A) × (list ≡ front ++ last ∷ [])
last_of [] x m = absurd m
last_of (y ∷ []) x m = ([], y, refl)
last_of (y ∷ z ∷ list) x m = let r = last_of (z ∷ list) z (inl refl) in (y ∷ r.0, r.1, ap (λ l. y ∷ l) r.2)

-- places

-- what stands at a place is a member
pub mem-slice_get : {A : Type 0} (list : List A) (i : ℕ) (x : A) → slice_get list i ≡ Some x → x ∈ list
mem-slice_get [] i x e = cc
mem-slice_get (y ∷ list) zero x e = inl (let f : Some y ≡ Some x = e in cc)
mem-slice_get (y ∷ list) (suc i) x e = inr (mem-slice_get list i x e)

pub slice_get_append_left : {A : Type 0} (list more : List A) (i : ℕ) (x : A) → slice_get list i ≡ Some x → slice_get (list ++ more) i ≡ Some x
slice_get_append_left [] more i x e = cc
slice_get_append_left (y ∷ list) more zero x e = e
slice_get_append_left (y ∷ list) more (suc i) x e = slice_get_append_left list more i x e

-- distinct members

-- the lists have no member in common
abbrev pub Apart : {A : Type 0} → List A → List A → Type 0
Apart {A} a b = (x : A) → x ∈ a → x ∈ b → ⊥

pub distinct_left : {A : Type 0} (a b : List A) → AreDistinct (a ++ b) → AreDistinct a
distinct_left [] b d = tt
distinct_left (x ∷ a) b d = (λ h. d.0 (mem_append_left x a b h), distinct_left a b d.1)

pub distinct_right : {A : Type 0} (a b : List A) → AreDistinct (a ++ b) → AreDistinct b
distinct_right [] b d = d
distinct_right (x ∷ a) b d = distinct_right a b d.1

pub distinct_apart : {A : Type 0} (a b : List A) → AreDistinct (a ++ b) → Apart a b
distinct_apart [] b d x h k = h
distinct_apart (y ∷ a) b d x h k = grind (arith, h, k, d.0, distinct_apart a b d.1 x, mem_append_right x a b)

pub distinct-append : {A : Type 0} (a b : List A) → AreDistinct a → AreDistinct b → ((x : A) → x ∈ a → ¬ (x ∈ b)) → AreDistinct (a ++ b)
distinct-append [] b d e f = e
distinct-append (x ∷ a) b d e f = grind (arith, d, e, f, mem-append x a b, distinct-append a b d.1 e)

pub distinct_parts : {A : Type 0} (a b : List A) → AreDistinct (a ++ b) → AreDistinct a × AreDistinct b × ((x : A) → x ∈ a → ¬ (x ∈ b))
distinct_parts a b d = (distinct_left a b d, distinct_right a b d, distinct_apart a b d)

pub distinct_swap : {A : Type 0} (a b : List A) → AreDistinct (a ++ b) → AreDistinct (b ++ a)
distinct_swap a b d = distinct-append b a (distinct_right a b d) (distinct_left a b d) (λ x h k. distinct_apart a b d x k h)

-- the member in the middle stands nowhere else
pub not_elsewhere : {A : Type 0} (a b : List A) (x : A) → AreDistinct (a ++ x ∷ b) → ¬ (x ∈ a) × ¬ (x ∈ b)
not_elsewhere a b x d = (λ h. distinct_apart a (x ∷ b) d x h (inl refl), (distinct_right a (x ∷ b) d).0)

-- distinct numbers below n are at most n
pub at_most : (n : ℕ) (xs : List ℕ) → AreDistinct xs → ((x : ℕ) → x ∈ xs → x < n) → length xs ≤ n
at_most zero xs d h = omega (arith, ap length (no_members xs (λ x m. omega (arith, h x m))))
at_most (suc n) xs d h = elim (decide_in n xs) [
  | inl m ↦ (let (a, b, e) = split_at n xs m in
      let (new, rest) = distinct_swap a (n ∷ b) (subst AreDistinct e d) in
      let below = λ (x : ℕ) (k : x ∈ (b ++ a)). below_other n x (h x (rw e (mem_swap x (n ∷ b) a (inr k)))) (λ same. new (subst (λ z. z ∈ (b ++ a)) same k)) in
      omega (arith, at_most n (b ++ a) rest below, ap length e, length-append a (n ∷ b), length-append b a))
  | inr none ↦ (let most = at_most n xs d (λ x k. below_other n x (h x k) (λ same. none (subst (λ z. z ∈ xs) same k))) in omega (arith, most))
]
  where
    below_other : (n x : ℕ) → x < suc n → x ≢ n → x < n
    below_other n x less other = omega (arith, less, other)

-- which stands before which

pub before_members : {A : Type 0} (x y : A) (t : List A) → StandsBefore x y t → (x ∈ t) × (y ∈ t)
before_members x y [] h = absurd h
before_members x y (z ∷ t) h = grind (arith, h, before_members x y t)

pub before_across : {A : Type 0} (x y : A) (a b : List A) → x ∈ a → y ∈ b → StandsBefore x y (a ++ b)
before_across x y [] b h k = absurd h
before_across x y (z ∷ a) b h k = grind (arith, h, k, before_across x y a b, mem_append_right y a b)

pub before_left : {A : Type 0} (x y : A) (a b : List A) → StandsBefore x y a → StandsBefore x y (a ++ b)
before_left x y [] b h = absurd h
before_left x y (z ∷ a) b h = grind (arith, h, before_left x y a b, mem_append_left y a b)

pub before_right : {A : Type 0} (x y : A) (a b : List A) → StandsBefore x y b → StandsBefore x y (a ++ b)
before_right x y [] b h = h
before_right x y (z ∷ a) b h = inr (before_right x y a b h)

-- of two different members one stands before the other
pub before_or_after : {A : Type 0} (x y : A) (list : List A) → x ∈ list → y ∈ list → x ≢ y → StandsBefore x y list ⊎ StandsBefore y x list
before_or_after x y [] h k n = absurd h
before_or_after x y (z ∷ list) h k n = grind (arith, h, k, before_or_after x y list)

-- none stands before itself
pub not_before_itself : {A : Type 0} (x : A) (list : List A) → AreDistinct list → ¬ (StandsBefore x x list)
not_before_itself x [] d h = h
not_before_itself x (z ∷ list) d h = grind (arith, h, d.0, not_before_itself x list d.1)

pub before_trans : {A : Type 0} (x y z : A) (list : List A) → AreDistinct list → StandsBefore x y list → StandsBefore y z list → StandsBefore x z list
before_trans x y z [] d h k = h
before_trans x y z (u ∷ list) d h k = grind (arith, h, k, d.0, before_trans x y z list d.1, before_members x y list, before_members y z list)

-- not both ways
pub not_both_ways : {A : Type 0} (x y : A) (list : List A) → AreDistinct list → StandsBefore x y list → StandsBefore y x list → ⊥
not_both_ways x y list d h k = not_before_itself x list d (before_trans x y x list d h k)

-- what stands before the member in the middle is in the front
pub in_front : {A : Type 0} (x y : A) (a b : List A) → AreDistinct (a ++ y ∷ b) → StandsBefore x y (a ++ y ∷ b) → x ∈ a
in_front x y [] b d h = absurd (grind (arith, h, d.0, before_members x y b))
in_front x y (z ∷ a) b d h = grind (arith, h, in_front x y a b d.1)

-- a list with no last member is empty
pub last_none : (xs : List ℕ) → slice_get xs (length xs - 1) ≡ None → xs ≡ []
last_none [] e = refl
last_none (y ∷ xs) e =
    let lt : length (y ∷ xs) - 1 < length (y ∷ xs) = omega arith in
    let f : Some (get_or (y ∷ xs) (length (y ∷ xs) - 1) 0) ≡ None = sym (slice_get-get_or (y ∷ xs) (length (y ∷ xs) - 1) 0 lt) ∙ e in
    absurd (cc)
