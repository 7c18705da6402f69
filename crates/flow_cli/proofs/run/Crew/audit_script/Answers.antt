use Rattle.std.proofs.Common.{inr}
use Rattle.flow_cli.proofs.run.Crew.audit_script.Goals as goal

pub returns : goal.returns
returns g c =
    let (found, finds, is) = c.in_ok-output.ensures in (
      found,
      inr (
        c.in_ok-prepared.prepared.workflow,
        c.in_ok-prepared.ensures.prepared.0,
        inr (c.in_ok-prepared.prepared.compiled, c.in_ok-prepared.ensures.prepared.1, finds),
      ),
      is,
    )
