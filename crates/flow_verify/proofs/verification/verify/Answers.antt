use Rattle.flow_workflow.specs.Rule.{rule_of, rules_of}
use Rattle.flow_workflow.specs.Definition.{schema_of}
use Rattle.flow_verify.proofs.Trials.{same_trial, outcome_of_trial}
use Rattle.flow_verify.proofs.verification.verify.Goals as goal

pub returns-clause-told : goal.returns-clause-told
returns-clause-told c =
    let same = same_trial c.args.workflow.now c.tree.result.now (rules_of c.in_ok-rules.rules.items) c.tree.ensures.tree c.in_ok-rules.ensures in
    (outcome_of_trial _ (schema_of c.args.workflow.now) _ (rule_of c.args.property.now) same c.in_ok-copy.ensures c.verify_tree.result c.verify_tree.ensures).0

pub returns-clause-within : goal.returns-clause-within
returns-clause-within c =
    let same = same_trial c.args.workflow.now c.tree.result.now (rules_of c.in_ok-rules.rules.items) c.tree.ensures.tree c.in_ok-rules.ensures in
    (outcome_of_trial _ (schema_of c.args.workflow.now) _ (rule_of c.args.property.now) same c.in_ok-copy.ensures c.verify_tree.result c.verify_tree.ensures).1

pub returns-clause-refused : goal.returns-clause-refused
returns-clause-refused c =
    let same = same_trial c.args.workflow.now c.tree.result.now (rules_of c.in_ok-rules.rules.items) c.tree.ensures.tree c.in_ok-rules.ensures in
    (outcome_of_trial _ (schema_of c.args.workflow.now) _ (rule_of c.args.property.now) same c.in_ok-copy.ensures c.verify_tree.result c.verify_tree.ensures).2
