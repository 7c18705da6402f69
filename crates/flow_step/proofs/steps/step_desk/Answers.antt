use Rattle.std.proofs.Common.{◌≡◌, [], ap, subst, ◌∙◌}
use Rattle.std.specs.Prelude.{IfOk}
use Rattle.flow_core.specs.Run.{Run}
use Rattle.flow_roles.specs.Desked.{Desked}
use Rattle.flow_roles.specs.Ask.{DeskAnswers, CanMakeAt}
use Rattle.flow_step.specs.Following.{desk_grown}
use Rattle.flow_step.specs.Step.{GoesOn}
use Rattle.flow_step.proofs.steps.step_desk.Goals as goal

pub returns : goal.returns
returns c =
    subst (λ (d : Desked). IfOk c.go_on.result
    (GoesOn (λ (desk : Desked). desk.run) DeskAnswers (λ (one other : Desked). other ≡ one) CanMakeAt desk_grown d c.args.history.now c.args.by c.args.command))
    (c.new-desk.ensures ∙ ap {B = Desked} (λ (r : Run). record { run = r; assigned = c.args.policy }) c.in-Ok.ensures
    ∙ ap {B = Desked} (λ limit. record { run = record { definition = c.args.prepared.workflow; limit = limit; history = [] }; assigned = c.args.policy }) c.room_for.ensures)
    c.go_on.ensures
