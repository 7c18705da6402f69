-- Pairs of events that are found one after another.
use Rattle.std.proofs.Common.{◌≡◌, ◌≢◌, ◌<◌, ◌+◌, ◌↔◌, ◌⊎◌, ℕ, List, [], ◌∷◌, ◌++◌, refl, sym, ap, subst, inl, inr, ⊎_elim, arith}
use Rattle.flow_model.specs.Lists.{◌∈◌}
use Rattle.flow_model.specs.Decided.{decide_eq}
use Rattle.flow_model.proofs.Lists.{mem_append_left, mem_append_right, mem-append}
use Rattle.flow_policy_lint.specs.Findings.{ArePairs, AddsPairs}

below_next : (n k : ℕ) → n < k + 1 → n ≢ k → n < k
below_next n k less other = omega (arith, less, other)

less_more : (n k : ℕ) → n < k → n < k + 1
less_more n k less = omega (arith, less)

last_below : (n k : ℕ) → n ≡ k → n < k + 1
last_below n k same = omega (arith, same)

module _ (P : ℕ → ℕ → Type 0) where
  -- no second one yet
  pub none_added : (first : ℕ) (old new : List (ℕ × ℕ)) → new ≡ old → AddsPairs P first 0 old new
  none_added first old new same one two = (
    λ among. inl (subst (λ l. (one, two) ∈ l) same among),
    λ either. ⊎_elim
        (λ before. subst (λ l. (one, two) ∈ l) (sym same) before)
        (λ (is, (below, has)). let low : two < 0 = below in absurd (omega arith))
        either,
  )

  -- the next second one is found
  pub one_added : (first k : ℕ) (old mid new : List (ℕ × ℕ)) → AddsPairs P first k old mid → P first k → new ≡ mid ++ (first, k) ∷ [] → AddsPairs P first (k + 1) old new
  one_added first k old mid new so_far has same one two = (to, from)
    where
      to : (one, two) ∈ new → ((one, two) ∈ old) ⊎ ((one ≡ first) × ((two < k + 1) × P one two))
      to among = elim (mem-append (one, two) mid ((first, k) ∷ []) (subst (λ l. (one, two) ∈ l) same among)) [
        | inl before ↦ ⊎_elim (λ b. inl b) (λ (is, (below, p)). inr (is, (less_more two k below, p))) ((so_far one two).0 before)
        | inr (inl here) ↦ (let a : one ≡ first = ap (λ (p : ℕ × ℕ). p.0) here in let b : two ≡ k = ap (λ (p : ℕ × ℕ). p.1) here in
            inr (a, (last_below two k b, subst (λ n. P n two) (sym a) (subst (P first) (sym b) has))))
        | inr (inr none) ↦ absurd none
      ]

      from : ((one, two) ∈ old) ⊎ ((one ≡ first) × ((two < k + 1) × P one two)) → (one, two) ∈ new
      from either = subst (λ l. (one, two) ∈ l) (sym same) (elim either [
        | inl before ↦ mem_append_left (one, two) mid ((first, k) ∷ []) ((so_far one two).1 (inl before))
        | inr (is, (below, p)) ↦ elim (decide_eq two k) [
          | inl last ↦ mem_append_right (one, two) mid ((first, k) ∷ []) (inl (λ i. (is i, last i)))
          | inr other ↦ mem_append_left (one, two) mid ((first, k) ∷ []) ((so_far one two).1 (inr (is, (below_next two k below other, p))))
        ]
      ])

  -- it is passed
  pub one_passed : (first k : ℕ) (old mid new : List (ℕ × ℕ)) → AddsPairs P first k old mid → ¬ (P first k) → new ≡ mid → AddsPairs P first (k + 1) old new
  one_passed first k old mid new so_far not same one two = (
    λ among. ⊎_elim (λ b. inl b) (λ (is, (below, p)). inr (is, (less_more two k below, p))) ((so_far one two).0 (subst (λ l. (one, two) ∈ l) same among)),
    λ either. subst (λ l. (one, two) ∈ l) (sym same) (elim either [
      | inl before ↦ (so_far one two).1 (inl before)
      | inr (is, (below, p)) ↦ elim (decide_eq two k) [
        | inl last ↦ absurd (not (subst (λ n. P n k) is (subst (P one) last p)))
        | inr other ↦ (so_far one two).1 (inr (is, (below_next two k below other, p)))
      ]
    ]),
  )

  -- no first one yet
  pub none_yet : (twos : ℕ) (found : List (ℕ × ℕ)) → found ≡ [] → ArePairs P 0 twos found
  none_yet twos found empty one two = (
    λ among. absurd (subst (λ l. (one, two) ∈ l) empty among),
    λ (below, rest). let low : one < 0 = below in absurd (omega arith),
  )

  -- those of the next first one
  pub pairs_next : (k twos : ℕ) (old new : List (ℕ × ℕ)) → ArePairs P k twos old → AddsPairs P k twos old new → ArePairs P (k + 1) twos new
  pairs_next k twos old new so_far adds one two = (to, from)
    where
      to : (one, two) ∈ new → (one < k + 1) × ((two < twos) × P one two)
      to among = ⊎_elim
          (λ before. let (below, rest) = (so_far one two).0 before in (less_more one k below, rest))
          (λ (is, rest). (last_below one k is, rest))
          ((adds one two).0 among)

      from : (one < k + 1) × ((two < twos) × P one two) → (one, two) ∈ new
      from (below, rest) = elim (decide_eq one k) [
        | inl last ↦ (adds one two).1 (inr (last, rest))
        | inr other ↦ (adds one two).1 (inl ((so_far one two).1 (below_next one k below other, rest)))
      ]
