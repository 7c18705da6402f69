-- A workflow with the negation of a property as one constraint more.
use Rattle.std.proofs.Common.{◌≡◌, ℕ, List, [], ◌∷◌, ◌++◌, Vec, Box, Global, ap, ◌∙◌, subst}
use Rattle.std.proofs.lemmas.List.{map-append}
use Rattle.flow_model.specs.Facts.{events_of}
use Rattle.flow_model.specs.Constraint.{Constraint, Not, Meets}
use Rattle.flow_model.specs.Schema.{Schema, IsGood}
use Rattle.flow_laws.specs.WellFormed.{IsConsistent}
use Rattle.flow_model.proofs.Lists.{each-append, each_parts}
use Rattle.flow_model.specs.Decided.{decide_meets}
use Rattle.flow_laws.proofs.WaysLemmas.{not_not}
use Rattle.flow_workflow.specs.declared.rule.Rule as rule
use Rattle.flow_workflow.specs.declared.rule.Rule.{Rule}
use Rattle.flow_workflow.specs.Rule.{rule_of, rules_of}
use Rattle.flow_workflow.proofs.RuleViews.{rule_of-Not}
use Rattle.flow_plan.specs.Compilation.{IsWithinLimits}
use Rattle.flow_excise.specs.Options.{schema_with}
use Rattle.flow_goal.specs.Labelled.{Labelled}
use Rattle.flow_verify.specs.declared.answers.Verified.TheVariants.{Holds, Fails}
use Rattle.flow_verify.specs.declared.refusal.VerifyRefusal.{VerifyRefusal}
use Rattle.flow_verify.specs.Verification.{against, TellsOfProperty, IsRefused}

-- an execution that meets the negation too does not meet the property
pub fails_by : (w : Schema) (p : Constraint) (t : List ℕ) → IsGood (against w p) t → IsGood w t × ¬ (Meets p (events_of w.labels t))
fails_by w p t (trace, met) =
    let (kept, (not_met, _)) = each_parts (λ c. Meets c (events_of w.labels t)) w.rules (Not p ∷ []) met in
    ((trace, kept), not_met)

-- where none meets the negation too, each meets the property
pub holds_where_none : (w : Schema) (p : Constraint) → ¬ (IsConsistent (against w p)) →
    (t : List ℕ) → IsGood w t → Meets p (events_of w.labels t)
holds_where_none w p none t (trace, met) =
    not_not (decide_meets p (events_of w.labels t))
    (λ n. none (t, (trace, each-append (λ c. Meets c (events_of w.labels t)) w.rules (Not p ∷ []) met (n, tt))))

-- The constraints where a rule is negated and put last

pub negated_last : (rules more : List Rule) (part : Box Rule Global) (property : Rule) →
    more ≡ rules ++ rule.Not part ∷ [] → part.value ≡ property → rules_of more ≡ rules_of rules ++ Not (rule_of property) ∷ []
negated_last rules more part property pushed boxed =
    ap rules_of pushed ∙ map-append rule_of rules (rule.Not part ∷ [])
    ∙ ap (λ c. rules_of rules ++ c ∷ []) (rule_of-Not part ∙ ap (λ r. Not (rule_of r)) boxed)

-- What an execution, or none, that meets the rules with the negation among them tells of the property

module _ (t : Labelled) (rules more : List Rule) (p : Constraint) (same : rules_of more ≡ rules_of rules ++ Not p ∷ []) where
  pub tells_fails : (e : Vec ℕ Global) → IsGood (schema_with t (rules_of more)) e.items → TellsOfProperty (schema_with t (rules_of rules)) p (Fails e)
  tells_fails e good = fails_by (schema_with t (rules_of rules)) p e.items (subst (λ cs. IsGood (schema_with t cs) e.items) same good)

  pub tells_holds : ¬ (IsConsistent (schema_with t (rules_of more))) → TellsOfProperty (schema_with t (rules_of rules)) p Holds
  tells_holds none = holds_where_none (schema_with t (rules_of rules)) p (subst (λ cs. ¬ (IsConsistent (schema_with t cs))) same none)

  pub within_with : IsWithinLimits (schema_with t (rules_of more)) → IsWithinLimits (against (schema_with t (rules_of rules)) p)
  within_with k = subst (λ cs. IsWithinLimits (schema_with t cs)) same k

  pub refused_with : (r : VerifyRefusal) → IsRefused (schema_with t (rules_of more)) r → IsRefused (against (schema_with t (rules_of rules)) p) r
  refused_with r h = subst (λ cs. IsRefused (schema_with t cs) r) same h
