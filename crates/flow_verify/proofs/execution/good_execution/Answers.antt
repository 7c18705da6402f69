use Rattle.std.proofs.Common.{subst}
use Rattle.flow_model.specs.Process.{IsNumbered}
use Rattle.flow_workflow.specs.Rule.{rules_of}
use Rattle.flow_excise.specs.Options.{schema_with}
use Rattle.flow_verify.proofs.Executions.{plan_trace_is_good}
use Rattle.flow_verify.proofs.execution.good_execution.Goals as goal

pub returns-in-Ok : goal.returns-in-Ok
returns-in-Ok c = (
  c.in-Ok.ensures.ok.within,
  plan_trace_is_good (schema_with c.args.tree.now (rules_of c.args.rules.now)) c.in-Ok.compiled _
      (record { numbered = subst (IsNumbered c.args.tree.now.process) c.leaves-leaves.ensures.count c.leaves-leaves.ensures.numbered; unique = c.requires.unique })
      c.in-Ok.ensures.ok c.in_ok-first_sample-in-Ok.ensures,
)
