-- What two answers together say.
use Rattle.std.proofs.Common.{◌≡◌, ◌↔◌, ◌⊎◌, inl, inr, ⊎_elim, Bool, true, false, not, IsTrue, refl, sym, true≢false}

-- the one is so, and the other is not
pub and_not : {P A : Type 0} (b : Bool) → P → IsTrue b ↔ A → IsTrue (not b) ↔ (P × ¬ A)
and_not true p is = (λ f. absurd (true≢false (sym f)), λ (q, none). absurd (none (is.0 refl)))
and_not false p is = (λ t. (p, λ a. true≢false (sym (is.1 a))), λ x. refl)

-- the one is so, and the other too
pub both : {A B : Type 0} (b : Bool) → A → IsTrue b ↔ B → IsTrue b ↔ (A × B)
both b a is = (λ t. (a, is.0 t), λ p. is.1 p.1)

-- the one is not so, but the other
pub or_else : {A B : Type 0} (b : Bool) → ¬ A → IsTrue b ↔ B → IsTrue b ↔ (A ⊎ B)
or_else b none is = (λ t. inr (is.0 t), λ e. ⊎_elim (λ a. absurd (none a)) (λ x. is.1 x) e)
