use Rattle.flow_workflow.specs.Rule.{rules_of}
use Rattle.flow_excise.specs.Options.{schema_with}
use Rattle.flow_plan.specs.Compilation.{IsCompiled}
use Rattle.flow_excise.proofs.Workflows.{compiled, of_parts}
use Rattle.test_calls.proofs.tests.runs.start.Goals as goal

pub start-requires-clause-compiled : goal.start-requires-clause-compiled
start-requires-clause-compiled c =
    compiled c.in_ok-workflow.workflow c.in-Ok.compiled
    (of_parts (λ t rules. IsCompiled (schema_with t rules) c.in-Ok.compiled) c.in_ok-workflow.workflow
    c.tree.result.now (rules_of c.rules.result.now) c.tree.ensures.tree c.rules.ensures c.in-Ok.ensures.ok)
