use Rattle.std.proofs.Common.{◌∙◌, true, ap}
use Rattle.std.proofs.lemmas.Result.{IfOk-weaker}
use Rattle.flow_model.specs.Ways.{ways}
use Rattle.flow_workflow.specs.Rule.{rule_of}
use Rattle.flow_rules.proofs.SplitForms.{same_ways}
use Rattle.flow_rules.proofs.normal_form.nnf.Goals as goal

pub returns-clause-ways : goal.returns-clause-ways
returns-clause-ways c =
    IfOk-weaker c.normal.result _ _ (λ n is leaf. ap (λ x. ways x leaf) is ∙ same_ways leaf (rule_of c.args.rule.now) true) c.normal.ensures.normal
