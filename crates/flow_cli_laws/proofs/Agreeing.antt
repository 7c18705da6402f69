-- Two things that may come of a call agree, but for something that is shown of which any will do.
use Rattle.std.proofs.Common.{◌≡◌, ℕ, List, Result, Err, ◌⊎◌, ⊎_elim, inl, inr, ap, sym, subst}
use Rattle.flow_findings.specs.declared.refused.Refused.{Refused}
use Rattle.flow_front.specs.Refusal.{Looked, IsCause}
use Rattle.flow_front.specs.Stages.{Then}
use Rattle.flow_cli.specs.Finding.{Finding, came_status, came_text}

-- events in refusals go by these names
module _ (names : List (List ℕ)) where
  -- the statuses are the same, and the texts too, or both show what is free
  abbrev pub Agree : (List ℕ → List ℕ → Type 0) → Result Finding Refused → Result Finding Refused → Type 0
  Agree Shows a b = (came_status a ≡ came_status b) × ((came_text names a ≡ came_text names b) ⊎ Shows (came_text names a) (came_text names b))

  pub same : (Shows : List ℕ → List ℕ → Type 0) (a b : Result Finding Refused) → a ≡ b → Agree Shows a b
  same Shows a b is = (ap came_status is, inl (ap (came_text names) is))

  -- what is free in more ways
  pub wider : (Shows More : List ℕ → List ℕ → Type 0) (a b : Result Finding Refused) → ((output text : List ℕ) → Shows output text → More output text) →
      Agree Shows a b → Agree More a b
  wider Shows More a b more (is, texts) = (is, ⊎_elim inl (λ shows. inr (more (came_text names a) (came_text names b) shows)) texts)

  -- one thing after another: what is looked at is refused alike, or is not refused, and what follows agrees
  module _ {A : Type 0} (looked : Looked) (Has : A → Type 0) (P : A → Result Finding Refused → Type 0) (Shows : List ℕ → List ℕ → Type 0)
      (refusals : (r q : Refused) → IsCause looked r → IsCause looked q → Agree Shows (Err r) (Err q))
      (not_both : (r : Refused) (x : A) → IsCause looked r → Has x → ⊥)
      (rest : (x y : A) (a b : Result Finding Refused) → Has x → Has y → P x a → P y b → Agree Shows a b) where
    pub then_agree : (a b : Result Finding Refused) → Then looked Has P a → Then looked Has P b → Agree Shows a b
    then_agree a b (inl (r, cause, is)) (inl (q, other, are)) =
        subst (λ (x : Result Finding Refused). Agree Shows x b) (sym is) (subst (Agree Shows (Err r)) (sym are) (refusals r q cause other))
    then_agree a b (inl (r, cause, is)) (inr (y, has, p)) = absurd (not_both r y cause has)
    then_agree a b (inr (x, has, p)) (inl (q, cause, is)) = absurd (not_both q x cause has)
    then_agree a b (inr (x, has, p)) (inr (y, have, q)) = rest x y a b has have p q

  -- where one thing alone is made, and what follows of it agrees
  pub of_one : {A : Type 0} (Has : A → Type 0) (P : A → Result Finding Refused → Type 0) (Shows : List ℕ → List ℕ → Type 0) →
      ((x y : A) → Has x → Has y → y ≡ x) → ((x : A) (a b : Result Finding Refused) → Has x → P x a → P x b → Agree Shows a b) →
      (x y : A) (a b : Result Finding Refused) → Has x → Has y → P x a → P y b → Agree Shows a b
  of_one Has P Shows one each x y a b has have p q = each x a b has p (subst (λ z. P z b) (one x y has have) q)
