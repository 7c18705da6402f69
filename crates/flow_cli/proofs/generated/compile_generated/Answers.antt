use Rattle.flow_cli.proofs.Refusals.{never_compiled}
use Rattle.flow_cli.proofs.generated.compile_generated.Goals as goal

pub unreachable-requires : goal.unreachable-requires
unreachable-requires c =
    never_compiled c.args.request.seed c.args.request.size c.args.workflow.now c.in-Err.stop c.in-Refused.field-0 c.in-Refused.is c.requires.within.size_some c.requires.within.size_few c.requires.expanded
    c.law_generated_workflows_are_compiled.ensures.whole c.in-Err.ensures.stop
