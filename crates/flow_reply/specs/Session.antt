-- A driven session.
use Rattle.std.specs.Prelude.{◌≡◌, ℕ, List, ◌++◌}
use Rattle.flow_model.specs.Verdict as model
use Rattle.flow_core.specs.Run.{Run, schema}
use Rattle.flow_core.specs.Lawful.{IsLawful}
use Rattle.flow_record.specs.declared.command.Command.{Command}
use Rattle.flow_front.specs.declared.status.Status.{Status}
use Rattle.flow_reply.specs.Replies.{Drives}
use Rattle.flow_reply.specs.Verdict.{ended, report_of}

-- what came of a session: the replies, the run as it is then, and what it came to
pub record Driven : Type 0 where
  pub replies : List ℕ
  pub last : Run
  pub verdict : model.Verdict

-- what came of replies that led to the run
abbrev pub came_of : List ℕ → Run → Driven
came_of replies r = record { replies = replies; last = r; verdict = model.drive_verdict (schema r) r.limit r.history }

-- A session from a run on: a reply to each command, and the run so made. Of its history the headline holds: it is lawful.
pub record IsSession (first : Run) (by : ℕ) (session : List Command) (d : Driven) : Type 0 where
  pub driven : Drives first by session d.replies d.last
  pub lawful : IsLawful (schema first) first.limit d.last.history
  pub verdict_is : d.verdict ≡ model.drive_verdict (schema first) first.limit d.last.history

-- the replies, and then the report
abbrev pub driven_text : Driven → List ℕ
driven_text d = d.replies ++ report_of d.last d.verdict

-- the status and the output are those of what came of a session
pub record IsDrivenOutput (d : Driven) (status : Status) (output : List ℕ) : Type 0 where
  pub status_is : status ≡ ended d.verdict
  pub output_is : output ≡ driven_text d
