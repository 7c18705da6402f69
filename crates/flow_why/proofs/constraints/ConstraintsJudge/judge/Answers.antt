use Rattle.std.proofs.Common.{ap, ◌∙◌}
use Rattle.std.proofs.lemmas.Result.{IfOk-weaker}
use Rattle.flow_workflow.specs.Rule.{rules_of}
use Rattle.flow_why.proofs.Sets.{told_of}
use Rattle.flow_why.proofs.constraints.ConstraintsJudge.judge.Goals as goal

pub returns : goal.returns
returns c =
    IfOk-weaker c.judge_rules.result _ _
    (λ judged tells. told_of c.args.self.now.workflow.now c.args.members.now c.args.self.now.front.now (rules_of c.deref.result.now) judged
    (ap rules_of c.deref.ensures.value ∙ c.in_ok-rules.ensures) tells)
    c.judge_rules.ensures
