use Rattle.flow_workflow.proofs.RuleViews.{needs_made}
use Rattle.flow_workflow.proofs.shorthands.needs.Goals as goal

pub returns-clause-meaning : goal.returns-clause-meaning
returns-clause-meaning c = needs_made c.in_ok-parts.parts c.args.a c.args.b c.in_ok-parts.ensures.items
