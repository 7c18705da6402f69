use Rattle.std.proofs.Common.{refl, subst, inr}
use Rattle.flow_core.specs.Run.{Run}
use Rattle.flow_reply.specs.Session.{IsSession}
use Rattle.flow_cli.specs.Finding.{driven}
use Rattle.flow_cli.proofs.drive.drive_script.Goals as goal

pub returns : goal.returns
returns c =
    let (d, is, out) = c.in_ok-output.ensures.ok in (
      driven d,
      inr (
        c.in_ok-prepared.prepared.workflow,
        c.in_ok-prepared.ensures.prepared.0,
        inr (
          c.in_ok-prepared.prepared.compiled,
          c.in_ok-prepared.ensures.prepared.1,
          (d, subst (λ (r : Run). IsSession r 0 c.args.session.now d) c.in_ok-core.ensures is, refl),
        ),
      ),
      record { status_is = out.status_is; output_is = out.output_is },
    )
