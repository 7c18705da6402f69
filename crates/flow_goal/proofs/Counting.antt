-- Sizes of goals, and numbers that are capped at a greatest one.
use Rattle.std.proofs.Common.{◌≡◌, ◌≤◌, ℕ, zero, suc, ◌+◌, ◌*◌, sym, ap, ◌∙◌, arith, ◌⊎◌, inl, inr, min}
use Rattle.std.proofs.lemmas.Bool.{cases_lt}
use Rattle.std.proofs.Math.Nat.{min-eq_left, min-eq_right, zero-mul, suc-mul, mul_comm}
use Rattle.flow_model.specs.Process.{Process, Empty, Task, Sequence, Parallel, Choice, Isolated}

-- how many goals a goal is made of
abbrev pub goal_size : Process → ℕ
goal_size Empty = 1
goal_size (Task n) = 1
goal_size (Sequence a b) = goal_size a + goal_size b + 2
goal_size (Parallel a b) = goal_size a + goal_size b + 2
goal_size (Choice a b) = goal_size a + goal_size b + 2
goal_size (Isolated a) = goal_size a + 1

pub min_cases : (x m : ℕ) → ((x ≤ m) × (min x m ≡ x)) ⊎ ((m ≤ x) × (min x m ≡ m))
min_cases x m = elim (cases_lt x m) [
  | inl h ↦ let k : x ≤ m = omega arith in inl (k, min-eq_left k)
  | inr h ↦ inr (h, min-eq_right h)
]

pub sum_capped : (m x y : ℕ) → min (min x m + min y m) m ≡ min (x + y) m
sum_capped m x y = omega arith

reaches : (m x y : ℕ) → m ≤ y → min (x * m) m ≡ min (x * y) m
reaches m zero y h = ap (λ t. min t m) (zero-mul m ∙ sym (zero-mul y))
reaches m (suc x) y h =
    let one : m ≤ suc x * m = omega (arith, suc-mul x m) in
    let other : m ≤ suc x * y = omega (arith, suc-mul x y) in
    min-eq_right one ∙ sym (min-eq_right other)

pub product_right : (m x y : ℕ) → min (x * min y m) m ≡ min (x * y) m
product_right m x y = elim (min_cases y m) [
  | inl (p, e) ↦ ap (λ t. min (x * t) m) e
  | inr (p, e) ↦ ap (λ t. min (x * t) m) e ∙ reaches m x y p
]

pub product_capped : (m x y : ℕ) → min (min x m * min y m) m ≡ min (x * y) m
product_capped m x y =
    product_right m (min x m) y ∙ ap (λ t. min t m) (mul_comm (min x m) y)
    ∙ product_right m y x ∙ ap (λ t. min t m) (mul_comm y x)
