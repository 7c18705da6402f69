use Rattle.std.proofs.Common.{ap, ◌∙◌}
use Rattle.flow_core.specs.Run.{Run}
use Rattle.flow_roles.specs.Desked.{Desked}
use Rattle.flow_cli.proofs.Duties.{users_found}
use Rattle.flow_cli.proofs.duty.drive_users.Goals as goal

pub returns : goal.returns
returns c =
    users_found c.args.prepared.workflow c.args.steps c.args.policy c.args.session.now c.new-desk.result c.drive-output.new.desk c.drive-output.new.caller
    c.drive-output.result (c.new-desk.ensures ∙ ap {B = Desked} (λ (r : Run). record { run = r; assigned = c.args.policy }) c.in-Ok.ensures) c.drive-output.ensures.ok
