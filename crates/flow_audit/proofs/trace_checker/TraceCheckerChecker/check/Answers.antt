use Rattle.std.proofs.Common.{List, ℕ, subst}
use Rattle.flow_workflow.specs.Definition.{schema_of}
use Rattle.flow_trace.specs.Traces.{TellsOfTrace}
use Rattle.flow_audit.proofs.trace_checker.TraceCheckerChecker.check.Goals as goal

pub returns-in_ok-checked-in-Ok : goal.returns-in_ok-checked-in-Ok
returns-in_ok-checked-in-Ok c =
    rw (← c.self.view_is) (
      c.in-Ok.leaves.items,
      c.in-Ok.ensures.ok,
      subst (λ (leaves : List ℕ). TellsOfTrace (schema_of c.self.inside.workflow.now) leaves c.in_ok-checked-in-Ok.checked) c.deref.ensures.value c.in_ok-checked-in-Ok.ensures.told,
    )
