-- A loop over numbers that finds none with P.
use Rattle.std.proofs.Common.{◌≡◌, ◌⊎◌, ⊎_elim, ◌<◌, ◌+◌, ℕ, subst, sym, arith}

pub below_or_last : (n k : ℕ) → n < k + 1 → (n < k) ⊎ (n ≡ k)
below_or_last n k within = grind arith

-- one number more
pub one_more : (P : ℕ → Type 0) (k : ℕ) → ((n : ℕ) → n < k → ¬ (P n)) → ¬ (P k) → (n : ℕ) → n < k + 1 → ¬ (P n)
one_more P k before last n within has = ⊎_elim (λ i. before n i has) (λ e. last (subst P e has)) (below_or_last n k within)
