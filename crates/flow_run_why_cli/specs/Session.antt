-- What is told of a session: the refusals come in the order of `flow drive` and `flow duty`, and the status is theirs.
use Rattle.std.specs.Prelude.{◌≡◌, ◌<◌, ◌≤◌, ◌⊎◌, ℕ, List, [], ◌∷◌, length, Option, None, Some, Result, Ok, Err}
use Rattle.std.proofs.Common.{Bor}
use Rattle.flow_model.specs.declared.limits.TheConstants.{GREATEST_INPUT}
use Rattle.flow_model.specs.Verdict.{drive_verdict}
use Rattle.flow_form.specs.Script.{Said}
use Rattle.flow_workflow.specs.Definition.{Definition}
use Rattle.flow_policy.specs.Assigned.{Assigned}
use Rattle.flow_policy.specs.Policy.{IsPolicyOf}
use Rattle.flow_policy.specs.Session.{duties_of}
use Rattle.flow_policy.specs.declared.duty.Duty.{Duty}
use Rattle.flow_record.specs.declared.command.Command.{Command}
use Rattle.flow_record.specs.Session.{session_of, commands}
use Rattle.flow_core.specs.Run.{Run, schema}
use Rattle.flow_core.specs.Ask.{Answers}
use Rattle.flow_roles.specs.Desked.{Desked}
use Rattle.flow_findings.specs.declared.refused.Refused.{Refused}
use Rattle.flow_findings.specs.declared.refused.Refused.TheVariants.{TooLong}
use Rattle.flow_front.specs.Refusal.{the_session, the_policy, the_duties}
use Rattle.flow_front.specs.Stages.{Then, Prepares}
use Rattle.flow_reply.specs.Replies.{Given, IsSame}
use Rattle.flow_reply.specs.Verdict.{ended}
use Rattle.flow_duty.specs.Replies.{WasGiven}
use Rattle.flow_run_why_words.specs.Parts.{part_of}
use Rattle.flow_run_why_cli.specs.Told.{Answer}

-- how many entries a history may have, as flow has it where no other number is given; and whoever calls before a user does
abbrev pub steps : ℕ
steps = 65536

abbrev pub nobody : ℕ
nobody = 0

-- each of the lines was given, one after another, and no other
abbrev pub AreGiven : {S C : Type 0} → (S → C → S → Type 0) → S → List C → S → Type 0
AreGiven Give before [] after = after ≡ before
AreGiven {S} Give before (line ∷ lines) after = (next : S) × Give before line next × AreGiven Give next lines after

-- the run was given the commands, and is that afterwards
abbrev pub IsDriven : Run → List Command → Run → Type 0
IsDriven r lines after = AreGiven (Given Answers IsSame nobody) r lines after

-- the desk was given the lines of users, and is that afterwards
abbrev pub IsDrivenByUsers : Desked → List Duty → Desked → Type 0
IsDrivenByUsers d lines after = (caller : ℕ) × AreGiven WasGiven (d, nobody) lines (after, caller)

-- the status with which flow ends that drove the run so far
abbrev pub answer_of : Run → Answer
answer_of r = record { status = ended (drive_verdict (schema r) r.limit r.history); front = [] }

-- before the first line
abbrev pub first_run : Definition → Run
first_run w = record { definition = w; limit = steps; history = [] }

abbrev pub first_desk : Definition → Assigned → Desked
first_desk w a = record { run = first_run w; assigned = a }

-- ---- a session of a run

abbrev pub DrivesWorkflow : Definition → List Command → Result Answer Refused → Type 0
DrivesWorkflow w lines came = (last : Run) × IsDriven (first_run w) lines last × (came ≡ Ok (answer_of last))

abbrev pub DrivesSaid : Said → List Command → Result Answer Refused → Type 0
DrivesSaid s lines came = Prepares s (λ w c. DrivesWorkflow w lines) came

-- the lines are read before what is said is expanded
abbrev pub DrivesText : Said → List ℕ → Result Answer Refused → Type 0
DrivesText s text came = Then (the_session text) (λ lines. session_of text ≡ commands lines) (DrivesSaid s) came

-- ---- a session of users under a policy

abbrev pub DrivesUsers : Definition → Assigned → List Duty → Result Answer Refused → Type 0
DrivesUsers w a lines came = (last : Desked) × (IsDrivenByUsers (first_desk w a) lines last × (came ≡ Ok (answer_of last.run)))

abbrev pub DutySaid : Said → Assigned → List Duty → Result Answer Refused → Type 0
DutySaid s a lines came = Prepares s (λ w c. DrivesUsers w a lines) came

abbrev pub DutyLines : Said → List ℕ → Assigned → Result Answer Refused → Type 0
DutyLines s text a came = Then (the_duties text) (λ lines. duties_of text ≡ commands lines) (DutySaid s a) came

-- the policy is read before the session; it is not read where it is longer than an input may be
abbrev pub DutyText : Said → List ℕ → List ℕ → Result Answer Refused → Type 0
DutyText s policy text came =
    ((GREATEST_INPUT < length policy) × (came ≡ Err TooLong))
    ⊎ ((length policy ≤ GREATEST_INPUT) × Then (the_policy s policy) (IsPolicyOf policy s) (DutyLines s text) came)

-- what comes of a session, with a policy or without one
abbrev pub DrivesAsked : Option (Bor (List ℕ)) → List ℕ → Said → Result Answer Refused → Type 0
DrivesAsked None text s came = DrivesText s (part_of text) came
DrivesAsked (Some policy) text s came = DutyText s (part_of policy.now) (part_of text) came
