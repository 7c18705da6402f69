use Rattle.std.proofs.Common.{inr}
use Rattle.flow_cli.proofs.run.Crew.run_script.Goals as goal

pub returns : goal.returns
returns g c =
    let (found, runs, is) = c.in_ok-report.ensures in (
      found,
      inr (
        c.in_ok-prepared.prepared.workflow,
        c.in_ok-prepared.ensures.prepared.0,
        inr (c.in_ok-prepared.prepared.compiled, c.in_ok-prepared.ensures.prepared.1, runs),
      ),
      is,
    )
