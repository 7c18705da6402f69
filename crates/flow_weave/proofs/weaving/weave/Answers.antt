use Rattle.std.proofs.Common.{ap, ◌∙◌}
use Rattle.flow_plan.specs.Planned.{pairs_of}
use Rattle.flow_weave.proofs.WovenLemmas.{woven_runs}
use Rattle.flow_weave.proofs.weaving.weave.Goals as goal

pub returns-clause-traces : goal.returns-clause-traces
returns-clause-traces c =
    woven_runs c.in_ok-plan.plan.process c.args.goal.now.process c.in_ok-plan.plan.tokens c.args.order.now.pairs.items
    c.in_ok-plan.ensures.process
    (ap pairs_of c.in_ok-plan.ensures.tokens ∙ c.in_ok-tokens.ensures.pairs ∙ c.pairs.ensures)
    c.in_ok-plan.ensures.ordered
