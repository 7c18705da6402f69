-- A rule of the code as a constraint of the definitions.
use Rattle.std.specs.Prelude.{List, [], ◌∷◌, map}
use Rattle.flow_model.specs.Constraint.{Constraint, Impossible, Must, Never, Order, Not, Or, all_of}
use Rattle.flow_workflow.specs.declared.rule.Rule.{Rule}
use Rattle.flow_workflow.specs.declared.rule.Rule.TheOpen as open_rule
use Rattle.flow_workflow.specs.declared.rule.Rule.TheOpen.{Rule-F}
use Rattle.flow_workflow.specs.declared.rule.Rule.TheFolds.{fold-Rule}

-- one constraint that is met where one of the list is, joined from the left
abbrev pub any_of : List Constraint → Constraint
any_of cs = joined Impossible cs
  where
    joined : Constraint → List Constraint → Constraint
    joined c [] = c
    joined c (d ∷ ds) = joined (Or c d) ds

-- one rule, with the constraint of each inner rule in its place
abbrev pub rule_step : Rule-F Constraint → Constraint
rule_step (open_rule.Must e) = Must e
rule_step (open_rule.Never e) = Never e
rule_step (open_rule.Order es) = Order es.items
rule_step (open_rule.Not r) = Not r.value
rule_step (open_rule.And rs) = all_of rs.items
rule_step (open_rule.Or rs) = any_of rs.items

abbrev pub rule_of : Rule → Constraint
rule_of = fold-Rule Constraint rule_step

abbrev pub rules_of : List Rule → List Constraint
rules_of rules = map rule_of rules
