use Rattle.std.proofs.Common.{refl}
use Rattle.flow_reply.proofs.SessionLemmas.{reported_as}
use Rattle.flow_cli.specs.Finding as finding
use Rattle.flow_cli.proofs.run.Crew.report.Goals as goal

pub returns : goal.returns
returns g c =
    let (meant, run, means) = c.in_ok-core.ensures in (
      finding.ran c.in_ok-core.core meant,
      (c.in_ok-core.core, (meant, run, refl)),
      record {
        status_is = c.status_of.ensures c.in_ok-core.core meant means;
        output_is = reported_as c.in_ok-core.core c.in_ok-core.verdict meant c.in_ok-report.field-0.items means c.in_ok-report.ensures;
      },
    )
