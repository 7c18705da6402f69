-- What comes of a step.
use Rattle.std.specs.Prelude.{◌≡◌, ◌⊎◌, ℕ, List, [], Option, None, Some, Result, Ok, Err}
use Rattle.flow_model.specs.declared.history.Entry.{Entry}
use Rattle.flow_form.specs.Script.{Said}
use Rattle.flow_form.specs.Names.{event_names}
use Rattle.flow_workflow.specs.Definition.{Definition}
use Rattle.flow_policy.specs.Assigned.{Assigned}
use Rattle.flow_ask.specs.declared.ask.Ask.{Ask}
use Rattle.flow_ask.specs.declared.made.Made.{Made}
use Rattle.flow_ask.specs.declared.refusal.Refusal.{Refusal}
use Rattle.flow_core.specs.Run.{Run}
use Rattle.flow_core.specs.Ask.{Answers}
use Rattle.flow_roles.specs.Desked.{Desked}
use Rattle.flow_roles.specs.Ask.{DeskAnswers, CanMakeAt}
use Rattle.flow_record.specs.declared.command.Command.{Command}
use Rattle.flow_findings.specs.declared.refused.Refused.{Refused}
use Rattle.flow_findings.specs.Refusing.{refused_text}
use Rattle.flow_front.specs.declared.stop.Stop.{Stop}
use Rattle.flow_front.specs.declared.stop.Stop.TheVariants as stop
use Rattle.flow_front.specs.Stages as front
use Rattle.flow_front.specs.Stages.{Prepares}
use Rattle.flow_step.specs.Records.{room_for}
use Rattle.flow_step.specs.Following.{IsFollowed, IsIllegalAt, run_may, run_grown, desk_grown}
use Rattle.flow_step.specs.Given.{Gives}
use Rattle.flow_step.specs.Texts.{SaysShort, IsTextCause, Under, ByLine}
use Rattle.flow_step.specs.declared.stepped.Stepped.{Stepped}
use Rattle.flow_step.specs.declared.stepped.Stepped.TheVariants as stepped

-- The history is followed from the first state on, and the command given to what comes of it; or the first record that is not legal is told.
abbrev pub GoesOn : {S : Type 0} → (S → Run) → (S → Ask → ℕ → Result Made Refusal → S → Type 0) → (S → S → Type 0) →
    (S → Entry → Type 0) → (S → Entry → S) → S → List ℕ → ℕ → Command → Stepped → Type 0
GoesOn run answers same may grown first history by command (stepped.Illegal number) = IsIllegalAt may grown first history number
GoesOn {S} run answers same may grown first history by command other =
    (before : S) × IsFollowed may grown first history before × Gives run answers same by before command other

-- a run with no entry yet
abbrev pub first_run : Definition → List ℕ → Run
first_run w history = record { definition = w; limit = room_for history; history = [] }

-- what comes of a command in a run of the workflow, or, where there is a policy, at the desk of one
abbrev pub StepsAt : Definition → Option Assigned → List ℕ → ℕ → Command → Stepped → Type 0
StepsAt w None history by command =
    GoesOn (λ (r : Run). r) Answers (λ (one other : Run). other ≡ one) run_may run_grown (first_run w history) history by command
StepsAt w (Some assigned) history by command =
    GoesOn (λ (d : Desked). d.run) DeskAnswers (λ (one other : Desked). other ≡ one) CanMakeAt desk_grown
    (record { run = first_run w history; assigned = assigned }) history by command

-- what is said is expanded and compiled, and stepped
abbrev pub SaidAt : Said → Option Assigned → List ℕ → ℕ → Command → Result Stepped Refused → Type 0
SaidAt s assigned history by command came =
    Prepares s (λ w _ found. (stepped : Stepped) × StepsAt w assigned history by command stepped × (found ≡ Ok stepped)) came

-- the line is read before it
abbrev pub ByCommand : Said → Option Assigned → List ℕ → ℕ → List ℕ → Result Stepped Refused → Type 0
ByCommand s assigned history by line came = ByLine line (SaidAt s assigned history by) came

-- and the policy before the line
abbrev pub StepsSaid : Said → List ℕ → List ℕ → ℕ → List ℕ → Result Stepped Refused → Type 0
StepsSaid s policy history by line came = Under s policy (λ assigned. ByCommand s assigned history by line) came

-- a refusal is told as `flow` tells it, events by these names
abbrev pub IsTold : List (List ℕ) → Result Stepped Refused → Stepped → Type 0
IsTold events (Ok found) stepped = stepped ≡ found
IsTold events (Err why) (stepped.Unread text) = text.items ≡ refused_text events why
IsTold events (Err why) other = ⊥

-- The step of the case with that text, policy and history, by that caller's line: the texts are looked at first, then the line, the workflow,
-- and last the history.
abbrev pub Steps : List ℕ → List ℕ → List ℕ → ℕ → List ℕ → Stepped → Type 0
Steps text policy history by line stepped =
    ((why : Refused) × IsTextCause text policy why × IsTold [] (Err why) stepped)
    ⊎ ((s : Said) × SaysShort text policy s
    × ((came : Result Stepped Refused) × StepsSaid s policy history by line came × IsTold (event_names s.decls) came stepped))

-- ---- what the calls of the crate give

abbrev pub IsIt : Stepped → Stepped → Type 0
IsIt stepped found = found ≡ stepped

-- what a call gives may come, and what it refuses may be refused; of want of memory nothing is said
abbrev pub Gets : (Result Stepped Refused → Type 0) → Result Stepped Stop → Type 0
Gets P result = front.Comes IsIt P result

-- what stopped a call is told
abbrev pub IsUnread : List (List ℕ) → Stop → Stepped → Type 0
IsUnread events (stop.Refused why) stepped = IsTold events (Err why) stepped
IsUnread events stop.NoMemory stepped = ⊥
