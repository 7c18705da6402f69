use Rattle.std.proofs.Common.{subst}
use Rattle.flow_model.specs.Lists.{◌∈◌}
use Rattle.flow_model.proofs.Lists.{mem-slice_get}
use Rattle.flow_questions_cli.proofs.names.event_of.Goals as goal

pub returns-in-Some-clause-known : goal.returns-in-Some-clause-known
returns-in-Some-clause-known c = subst (λ n. n ∈ c.args.workflow.now.events) c.in_ok-called.ensures (mem-slice_get _ _ _ c.in-Some.ensures.place)
