use Rattle.flow_workflow.specs.Definition.{schema_of}
use Rattle.flow_workflow.specs.Rule.{rules_of}
use Rattle.flow_front.proofs.Parts.{refused_of_parts, compiled_of_parts}
use Rattle.flow_front.proofs.Stops.{told_stop, compiling_stops}
use Rattle.flow_front.proofs.prepared.compile_workflow.Goals as goal

pub returns-clause-compiled : goal.returns-clause-compiled
returns-clause-compiled c =
    compiled_of_parts c.args.workflow.now c.tree.result.now (rules_of c.rules.result.now) c.tree.ensures.tree c.rules.ensures c.in_ok-compile.field-0 c.in_ok-compile.ensures.ok

pub returns-in_err-compile-clause-stop : goal.returns-in_err-compile-clause-stop
returns-in_err-compile-clause-stop c =
    told_stop c.from_residual.result _ _ c.from_residual.ensures.1 (compiling_stops (schema_of c.args.workflow.now) c.in_err-compile.field-0.0
    (refused_of_parts c.args.workflow.now c.tree.result.now (rules_of c.rules.result.now) c.tree.ensures.tree c.rules.ensures c.in_err-compile.field-0.0 c.in_err-compile.ensures.refused))
