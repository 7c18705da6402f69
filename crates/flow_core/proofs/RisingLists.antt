-- Numbers that have a property, found one after another.
use Rattle.std.proofs.Common.{◌≡◌, ◌≢◌, ℕ, ◌+◌, ◌<◌, List, [], ◌∷◌, ◌++◌, refl, sym, ap, subst, inl, inr, arith}
use Rattle.flow_model.specs.Lists.{◌∈◌}
use Rattle.flow_model.specs.Decided.{decide_eq, not_empty}
use Rattle.flow_model.specs.Verdict.{AreJust}
use Rattle.flow_model.proofs.Lists.{mem_append_left, mem_append_right, mem-append}

-- it is below the bound, and has P
abbrev pub Below : (ℕ → Type 0) → ℕ → ℕ → Type 0
Below P bound n = (n < bound) × P n

-- each number stands before greater ones alone
abbrev pub Rises : List ℕ → Type 0
Rises list = (front back : List ℕ) (x y : ℕ) → list ≡ front ++ x ∷ y ∷ back → x < y

not_one : (i : ℕ) (front back : List ℕ) (x y : ℕ) → ¬ (i ∷ [] ≡ front ++ x ∷ y ∷ back)
not_one i [] back x y e = cc
not_one i (a ∷ front) back x y e = let rest : [] ≡ front ++ x ∷ y ∷ back = cc in not_empty front x (y ∷ back) rest

-- a greater number at the end
rises_more : (list : List ℕ) (i : ℕ) → Rises list → ((n : ℕ) → n ∈ list → n < i) → Rises (list ++ i ∷ [])
rises_more [] i rises less front back x y e = absurd (not_one i front back x y e)
rises_more (m ∷ []) i rises less [] back x y e =
    let first : m ≡ x = cc in
    let second : i ≡ y = cc in
    subst (λ n. n < y) first (subst (λ n. m < n) second (less m (inl refl)))
rises_more (m ∷ k ∷ ms) i rises less [] back x y e =
    let first : m ≡ x = cc in
    let second : k ≡ y = cc in
    subst (λ n. n < y) first (subst (λ n. m < n) second (rises [] ms m k refl))
rises_more (m ∷ ms) i rises less (a ∷ front) back x y e =
    let rest : ms ++ i ∷ [] ≡ front ++ x ∷ y ∷ back = cc in
    rises_more ms i (λ f b u v same. rises (m ∷ f) b u v (ap (λ l. m ∷ l) same)) (λ n there. less n (inr there)) front back x y rest

pub none_yet : (P : ℕ → Type 0) → AreJust (Below P 0) []
none_yet P = record {
  rising = λ front back x y e. absurd (not_empty front x (y ∷ back) e);
  exact = λ n. (λ member. absurd member, λ below. let low : n < 0 = below.0 in absurd (omega arith));
}

-- the next number has P
pub one_found : (P : ℕ → Type 0) (i : ℕ) (list : List ℕ) → AreJust (Below P i) list → P i → AreJust (Below P (i + 1)) (list ++ i ∷ [])
one_found P i list just has = record {
  rising = rises_more list i just.rising (λ n there. ((just.exact n).0 there).0);
  exact = λ n. (to n, from n);
}
  where
    to : (n : ℕ) → n ∈ (list ++ i ∷ []) → Below P (i + 1) n
    to n member = elim (mem-append n list (i ∷ []) member) [
      | inl before ↦ (let low : n < i = ((just.exact n).0 before).0 in (omega arith, ((just.exact n).0 before).1))
      | inr (inl same) ↦ (omega (arith, same), subst P (sym same) has)
      | inr (inr none) ↦ absurd none
    ]

    from : (n : ℕ) → Below P (i + 1) n → n ∈ (list ++ i ∷ [])
    from n below = elim (decide_eq n i) [
      | inl same ↦ mem_append_right n list (i ∷ []) (inl same)
      | inr other ↦ (let ne : n ≢ i = other in let low : n < i + 1 = below.0 in
          mem_append_left n list (i ∷ []) ((just.exact n).1 (omega arith, below.1)))
    ]

-- the same list, for properties that are had by the same numbers
pub just_as : (P Q : ℕ → Type 0) (list : List ℕ) → AreJust P list → ((n : ℕ) → P n → Q n) → ((n : ℕ) → Q n → P n) → AreJust Q list
just_as P Q list just to from = record {
  rising = just.rising;
  exact = λ n. (λ member. to n ((just.exact n).0 member), λ has. (just.exact n).1 (from n has));
}

-- the next number lacks P
pub one_passed : (P : ℕ → Type 0) (i : ℕ) (list : List ℕ) → AreJust (Below P i) list → ¬ (P i) → AreJust (Below P (i + 1)) list
one_passed P i list just lacks = just_as (Below P i) (Below P (i + 1)) list just (λ n below. let low : n < i = below.0 in (omega arith, below.1)) (λ n below. elim (decide_eq n i) [
  | inl same ↦ absurd (lacks (subst P same below.1))
  | inr other ↦ (let ne : n ≢ i = other in let low : n < i + 1 = below.0 in (omega arith, below.1))
])

-- no number past the bound has P
pub all_found : (P : ℕ → Type 0) (bound : ℕ) (list : List ℕ) → AreJust (Below P bound) list → ((n : ℕ) → P n → n < bound) → AreJust P list
all_found P bound list just within = just_as (Below P bound) P list just (λ n below. below.1) (λ n has. (within n has, has))

-- no number has P
pub none_has : (P : ℕ → Type 0) → ((n : ℕ) → ¬ (P n)) → AreJust P []
none_has P none = all_found P 0 [] (none_yet P) (λ n has. absurd (none n has))

-- Two lists that rise

tail_rises : (x : ℕ) (xs : List ℕ) → Rises (x ∷ xs) → Rises xs
tail_rises x xs rises front back y z e = rises (x ∷ front) back y z (ap (λ l. x ∷ l) e)

above_head : (x : ℕ) (xs : List ℕ) → Rises (x ∷ xs) → (n : ℕ) → n ∈ xs → x < n
above_head x [] rises n there = absurd there
above_head x (y ∷ ys) rises n (inl e) = let less : x < y = rises [] ys x y refl in omega (arith, e)
above_head x (y ∷ ys) rises n (inr there) =
    let less : x < y = rises [] ys x y refl in
    let more : y < n = above_head y ys (tail_rises x (y ∷ ys) rises) n there in
    omega arith

same_heads : (x y : ℕ) (xs ys : List ℕ) → Rises (x ∷ xs) → Rises (y ∷ ys) → x ∈ (y ∷ ys) → y ∈ (x ∷ xs) → x ≡ y
same_heads x y xs ys rx ry (inl same) other = same
same_heads x y xs ys rx ry (inr there) (inl same) = sym same
same_heads x y xs ys rx ry (inr there) (inr back) =
    let less : y < x = above_head y ys ry x there in
    let more : x < y = above_head x xs rx y back in
    absurd (omega arith)

in_tail : (x y : ℕ) (xs ys : List ℕ) → Rises (x ∷ xs) → x ≡ y → (n : ℕ) → n ∈ xs → n ∈ (y ∷ ys) → n ∈ ys
in_tail x y xs ys rx same n there (inl e) = let less : x < n = above_head x xs rx n there in absurd (omega (arith, e, same))
in_tail x y xs ys rx same n there (inr m) = m

same_members : (xs ys : List ℕ) → Rises xs → Rises ys → ((n : ℕ) → n ∈ xs → n ∈ ys) → ((n : ℕ) → n ∈ ys → n ∈ xs) → xs ≡ ys
same_members [] [] rx ry to from = refl
same_members [] (y ∷ ys) rx ry to from = absurd (from y (inl refl))
same_members (x ∷ xs) [] rx ry to from = absurd (to x (inl refl))
same_members (x ∷ xs) (y ∷ ys) rx ry to from =
    let same : x ≡ y = same_heads x y xs ys rx ry (to x (inl refl)) (from y (inl refl)) in
    let rest : xs ≡ ys = same_members xs ys (tail_rises x xs rx) (tail_rises y ys ry)
    (λ n there. in_tail x y xs ys rx same n there (to n (inr there)))
    (λ n there. in_tail y x ys xs ry (sym same) n there (from n (inr there))) in
    cc

-- a property has one list
pub one_list : (P : ℕ → Type 0) (xs ys : List ℕ) → AreJust P xs → AreJust P ys → xs ≡ ys
one_list P xs ys jx jy = same_members xs ys jx.rising jy.rising (λ n there. (jy.exact n).1 ((jx.exact n).0 there)) (λ n there. (jx.exact n).1 ((jy.exact n).0 there))
