use Rattle.std.proofs.Common.{refl, subst, inr}
use Rattle.flow_core.specs.Run.{Run}
use Rattle.flow_run_why_cli.specs.Session.{answer_of, IsDriven}
use Rattle.flow_run_why_cli.proofs.session.drive_script.Goals as goal

pub returns : goal.returns
returns c =
    let (last, is, told) = c.in_ok-output.ensures in (
      answer_of last,
      inr (
        c.in_ok-prepared.prepared.workflow,
        c.in_ok-prepared.ensures.prepared.0,
        inr (
          c.in_ok-prepared.prepared.compiled,
          c.in_ok-prepared.ensures.prepared.1,
          (last, subst (λ (r : Run). IsDriven r c.args.commands.now last) c.in_ok-core.ensures is, refl),
        ),
      ),
      told,
    )
