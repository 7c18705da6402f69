-- A session of users.
use Rattle.std.specs.Prelude.{◌≡◌, ℕ, List}
use Rattle.flow_model.specs.declared.history.Entry.{Entry}
use Rattle.flow_model.specs.Lists.{Begins}
use Rattle.flow_model.specs.Run.{state_of}
use Rattle.flow_model.specs.Takers.{takings_of}
use Rattle.flow_model.specs.Duties.{DutiesHold}
use Rattle.flow_model.specs.Verdict as model
use Rattle.flow_core.specs.Run.{schema}
use Rattle.flow_core.specs.Lawful.{IsLawful}
use Rattle.flow_reply.specs.Session.{Driven}
use Rattle.flow_policy.specs.declared.duty.Duty.{Duty}
use Rattle.flow_roles.specs.Desked.{Desked}
use Rattle.flow_duty.specs.Replies.{DrivesDesk}

-- A session from a desk on: a reply to each line, and the run so made. Of its history the headline holds: it is lawful, and duties hold
-- after every step.
pub record IsUserSession (first : Desked) (by : ℕ) (session : List Duty) (d : Driven) (last : Desked) (caller : ℕ) : Type 0 where
  pub driven : DrivesDesk first by session d.replies last caller
  pub last_is : d.last ≡ last.run
  pub lawful : IsLawful (schema first.run) first.run.limit d.last.history
  pub verdict_is : d.verdict ≡ model.drive_verdict (schema first.run) first.run.limit d.last.history
  pub kept : (front : List Entry) → Begins d.last.history front →
      DutiesHold (schema first.run) first.assigned.duties (state_of (schema first.run) front) (takings_of front)
