use Rattle.std.proofs.lemmas.Result.{IfErr-weaker}
use Rattle.flow_plan.specs.Planned.{pairs_of}
use Rattle.flow_sample.proofs.SideLemmas.{told_without_choices}
use Rattle.flow_sample.proofs.sample.run_of_plan.Goals as goal

pub returns-else-has_choice-clause-circle : goal.returns-else-has_choice-clause-circle
returns-else-has_choice-clause-circle c =
    IfErr-weaker c.run_without_choices.result _ _
    (told_without_choices c.args.plan.now.process (pairs_of c.args.plan.now.tokens) (c.has_choice.ensures c.args.plan.now.process c.nodes.ensures.nodes c.if-has_choice.false))
    c.run_without_choices.ensures.circle
