-- Users who drive what is said.
use Rattle.std.proofs.Common.{◌≡◌, ℕ, List, Result, Ok, Err, refl, sym, ap, subst}
use Rattle.std.specs.Prelude.{IfOk}
use Rattle.std.specs.declared.alloc.AllocError.{AllocError}
use Rattle.flow_form.specs.Script.{Said}
use Rattle.flow_form.specs.Names.{event_names}
use Rattle.flow_workflow.specs.Definition.{Definition}
use Rattle.flow_expand.specs.Workflows.{IsExpanded}
use Rattle.flow_policy.specs.Assigned.{Assigned}
use Rattle.flow_policy.specs.declared.duty.Duty.{Duty}
use Rattle.flow_roles.specs.Desked.{Desked}
use Rattle.flow_reply.specs.Session.{Driven, IsDrivenOutput}
use Rattle.flow_duty.specs.Session.{IsUserSession}
use Rattle.flow_front.specs.declared.output.Output.{Output}
use Rattle.flow_cli.specs.Finding.{driven, IsFound}
use Rattle.flow_cli.specs.Duty.{nobody, first_desk, DrivesUsers}

-- a workflow has the events of what is said, in order
pub events_said : (s : Said) (w : Definition) → IsExpanded s w → event_names s.decls ≡ w.events
events_said s w x = sym (ap (λ (v : Definition). v.events) x.is)

-- what users did from the first desk is found
pub users_found : (w : Definition) (steps : ℕ) (a : Assigned) (session : List Duty) (first last : Desked) (caller : ℕ) (result : Result Output AllocError) →
    first ≡ first_desk w steps a →
    IfOk result (λ output. (d : Driven) × IsUserSession first nobody session d last caller × IsDrivenOutput d output.status output.text.items) →
    IfOk result (IsFound (DrivesUsers w steps a session))
users_found w steps a session first last caller (Err e) begun found = tt
users_found w steps a session first last caller (Ok output) begun (d, is, told) = (
  driven d,
  (d, (last, (caller, (subst (λ (desk : Desked). IsUserSession desk nobody session d last caller) begun is, refl)))),
  record { status_is = told.status_is; output_is = told.output_is },
)
