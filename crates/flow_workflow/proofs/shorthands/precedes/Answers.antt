use Rattle.flow_workflow.proofs.RuleViews.{precedes_made}
use Rattle.flow_workflow.proofs.shorthands.precedes.Goals as goal

pub returns-clause-meaning : goal.returns-clause-meaning
returns-clause-meaning c =
    precedes_made c.in_ok-parts.parts c.args.a c.args.b c.in_ok-order.order c.in_ok-parts.ensures.items c.in_ok-order.ensures.items
