-- The options that are kept.
use Rattle.std.proofs.Common.{List, [], ◌∷◌, sym, subst, inl, inr, ◌⊎◌, ⊎_elim, ◌≡◌}
use Rattle.flow_model.specs.Lists.{◌∈◌}
use Rattle.flow_model.specs.Resolution.{ChoiceOption}
use Rattle.flow_plan.specs.Options.{HasExecution, AreJustThose}

-- one that is kept is among the options and has an execution
pub kept_has : (os kept : List ChoiceOption) → AreJustThose HasExecution os kept → (o : ChoiceOption) → o ∈ kept → (o ∈ os) × HasExecution o
kept_has [] kept h o m = absurd (subst (λ z. o ∈ z) h m)
kept_has (p ∷ os) kept (inl (g, (rest, e, s))) o m = ⊎_elim
    (λ i. (inl i, subst HasExecution (sym i) g))
    (λ k. let r = kept_has os rest s o k in (inr r.0, r.1))
    (member (subst (λ z. o ∈ z) e m))
  where
    member : o ∈ (p ∷ rest) → (o ≡ p) ⊎ (o ∈ rest)
    member k = k
kept_has (p ∷ os) kept (inr (n, s)) o m = let r = kept_has os kept s o m in (inr r.0, r.1)
