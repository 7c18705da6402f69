-- What `duty` finds.
use Rattle.std.specs.Prelude.{◌≡◌, ℕ, List, take, drop, Result, Ok}
use Rattle.flow_form.specs.Script.{Said}
use Rattle.flow_workflow.specs.Definition.{Definition}
use Rattle.flow_policy.specs.Assigned.{Assigned}
use Rattle.flow_policy.specs.Policy.{IsPolicyOf}
use Rattle.flow_record.specs.Cut.{cut_of}
use Rattle.flow_record.specs.Session.{commands}
use Rattle.flow_policy.specs.declared.duty.Duty.{Duty}
use Rattle.flow_roles.specs.Desked.{Desked}
use Rattle.flow_policy.specs.Session.{duties_of}
use Rattle.flow_findings.specs.declared.refused.Refused.{Refused}
use Rattle.flow_front.specs.Refusal.{the_policy, the_duties}
use Rattle.flow_front.specs.Stages.{Then, Prepares}
use Rattle.flow_reply.specs.Session.{Driven}
use Rattle.flow_duty.specs.Session.{IsUserSession}
use Rattle.flow_cli.specs.Finding.{Finding, driven}
use Rattle.flow_cli.specs.Drive.{first_run}

-- the policy of a second part, and the session of its users that follows: it is cut as the input is
abbrev pub policy_part : List ℕ → List ℕ
policy_part text = take (cut_of text).0 text

abbrev pub session_part : List ℕ → List ℕ
session_part text = drop (cut_of text).1 text

-- the number of whoever calls before a user does
abbrev pub nobody : ℕ
nobody = 0

-- before the first line
abbrev pub first_desk : Definition → ℕ → Assigned → Desked
first_desk w steps a = record { run = first_run w steps; assigned = a }

-- The workflow is driven by the session of users, in so many steps at most. The history is lawful, and duties hold after every step.
abbrev pub DrivesUsers : Definition → ℕ → Assigned → List Duty → Result Finding Refused → Type 0
DrivesUsers w steps a session came =
    (d : Driven) × ((last : Desked) × ((caller : ℕ) × (IsUserSession (first_desk w steps a) nobody session d last caller × (came ≡ Ok (driven d)))))

abbrev pub DutySaid : Said → ℕ → Assigned → List Duty → Result Finding Refused → Type 0
DutySaid s steps a session came = Prepares s (λ w c. DrivesUsers w steps a session) came

-- the text is the session, whose lines are read before what is said is expanded
abbrev pub DutyLines : Said → ℕ → List ℕ → Assigned → Result Finding Refused → Type 0
DutyLines s steps text a came = Then (the_duties text) (λ session. duties_of text ≡ commands session) (DutySaid s steps a) came

-- the policy of the text is read before its session
abbrev pub DutyText : Said → ℕ → List ℕ → Result Finding Refused → Type 0
DutyText s steps text came = Then (the_policy s (policy_part text)) (IsPolicyOf (policy_part text) s) (DutyLines s steps (session_part text)) came
