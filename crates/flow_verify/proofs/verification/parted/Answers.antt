use Rattle.std.proofs.Common.{rules, ◌<◌, List, length, remove, ap, ◌∙◌, arith}
use Rattle.std.proofs.lemmas.List.{length-map}
use Rattle.flow_model.specs.Constraint.{Constraint}
use Rattle.flow_workflow.specs.Rule.{rule_of, rules_of}
use Rattle.flow_verify.proofs.Removals.{map-remove, rule_at}
use Rattle.flow_verify.proofs.Trials.{never_missing}
use Rattle.flow_verify.proofs.verification.parted.Goals as goal

pub returns-clause-others : goal.returns-clause-others
returns-clause-others c =
    ap rules_of c.remove-rule.ensures.items ∙ map-remove rule_of c.in_ok-others.others.items c.args.index
    ∙ ap (λ (cs : List Constraint). remove cs c.args.index) c.in_ok-others.ensures

pub returns-clause-rule : goal.returns-clause-rule
returns-clause-rule c =
    let below : c.args.index < length c.args.workflow.now.rules = omega (arith, length-map c.rules.result.now rule_of, ap (λ (cs : List Constraint). length cs) c.rules.ensures) in
    rule_at c.in_ok-others.others.items c.args.workflow.now.rules c.args.index c.remove-rule.result c.in_ok-others.ensures below c.remove-rule.ensures.value

pub returns-in_err-others-clause-no_rule : goal.returns-in_err-others-clause-no_rule
returns-in_err-others-clause-no_rule c =
    let below : c.args.index < length c.args.workflow.now.rules = omega (arith, length-map c.rules.result.now rule_of, ap (λ (cs : List Constraint). length cs) c.rules.ensures) in
    never_missing c.from_residual.result (length c.args.workflow.now.rules) c.args.index below (search rules)

pub returns-clause-no_rule : goal.returns-clause-no_rule
returns-clause-no_rule c =
    let below : c.args.index < length c.args.workflow.now.rules = omega (arith, length-map c.rules.result.now rule_of, ap (λ (cs : List Constraint). length cs) c.rules.ensures) in
    never_missing _ (length c.args.workflow.now.rules) c.args.index below tt
