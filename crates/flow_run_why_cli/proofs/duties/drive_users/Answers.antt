use Rattle.std.proofs.Common.{ap, ◌∙◌, subst}
use Rattle.std.proofs.lemmas.Result.{IfOk-weaker}
use Rattle.flow_core.specs.Run.{Run}
use Rattle.flow_roles.specs.Desked.{Desked}
use Rattle.flow_run_why_cli.specs.Session.{IsDrivenByUsers}
use Rattle.flow_run_why_cli.proofs.duties.drive_users.Goals as goal

pub returns : goal.returns
returns c =
    let begun = c.new-desk.ensures ∙ ap {B = Desked} (λ (r : Run). record { run = r; assigned = c.args.policy }) c.in-Ok.ensures in
    IfOk-weaker c.drive_desk-output.result _ _
    (λ output found. (found.0, subst (λ (d : Desked). IsDrivenByUsers d c.args.duties.now found.0) begun found.1, found.2)) c.drive_desk-output.ensures
