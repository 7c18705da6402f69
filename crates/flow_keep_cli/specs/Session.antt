-- A session that is kept: each entry is in the file before its reply is written.
use Rattle.std.specs.Prelude.{◌≡◌, ◌<◌, ◌≤◌, ◌⊎◌, ◌+◌, ℕ, List, [], ◌∷◌, ◌++◌, length, take, slice_get, Option, Some, Result, Ok, Err}
use Rattle.std.specs.Io.KnownBytes.{Appends}
use Rattle.flow_model.specs.Verdict.{drive_verdict}
use Rattle.flow_core.specs.Run.{Run, schema}
use Rattle.flow_record.specs.declared.command.Command.{Command}
use Rattle.flow_core.specs.Ask.{Answers}
use Rattle.flow_reply.specs.Replies.{Given, IsSame, RepliesTo, Drives}
use Rattle.flow_reply.specs.Verdict.{ended, report_of}
use Rattle.flow_reply.specs.Session.{Driven, IsSession, driven_text}
use Rattle.flow_model.specs.declared.history.Entry.{Entry}
use Rattle.flow_keep.specs.Kept.{KeepsEither}
use Rattle.flow_keep.specs.Records.{Keeps}
use Rattle.flow_front.specs.declared.status.Status.TheVariants as front
use Rattle.flow_keep_cli.specs.declared.replies.Cut.{Cut}
use Rattle.flow_keep_cli.specs.declared.replies.Cut.TheVariants as cut
use Rattle.flow_keep_cli.specs.declared.status.KeepStatus.{KeepStatus}
use Rattle.flow_keep_cli.specs.declared.status.KeepStatus.TheVariants as ending
use Rattle.flow_keep_cli.specs.Lines.{disk_line}

-- the number of the caller that makes the entries of a session
abbrev pub driver : ℕ
driver = 0

-- the command was given to the run, whatever is replied, and the run is this afterwards
abbrev pub IsGiven : Run → Command → Run → Type 0
IsGiven r command after = Given Answers IsSame driver r command after

-- the run is this after the commands, whatever is replied to them
abbrev pub Goes : Run → List Command → Run → Type 0
Goes r [] after = after ≡ r
Goes r (command ∷ commands) after = (next : Run) × IsGiven r command next × Goes next commands after

-- the file keeps what the first so many commands, or one more, make of the run
pub record KeepsSome (first : Run) (commands : List Command) (least : ℕ) (file : List ℕ) : Type 0 where
  pub count : ℕ
  pub from : least ≤ count
  pub soon : count ≤ least + 1
  pub within : count ≤ length commands
  pub last : Run
  pub goes : Goes first (take count commands) last
  pub kept : Keeps last.history file

-- a front of the line, and not all of it
abbrev pub IsFront : List ℕ → List ℕ → Type 0
IsFront line more = (n : ℕ) × (n < length line) × (more ≡ take n line)

-- the run replies to the command of that number by this line
abbrev pub IsReplyTo : Run → List Command → ℕ → List ℕ → Type 0
IsReplyTo r commands number line =
    (command : Command) × (slice_get commands number ≡ Some command) × ((next : Run) × RepliesTo r driver command line next)

-- the report of a driven run
abbrev pub driven_report : Run → List ℕ
driven_report r = report_of r (drive_verdict (schema r) r.limit r.history)

-- The session was cut short: so many commands were replied to whole, what stands behind their replies is no whole reply, and a crash now
-- leaves a file that keeps what these commands, or these and the next one, make of the run.
pub record IsCut (first : Run) (commands : List Command) (IsBehind : Run → ℕ → List ℕ → Type 0) (front : List ℕ)
    (held held' : Option (List ℕ)) (tells : Type 0) (images : List ℕ → Type 0) : Type 0 where
  pub done : ℕ
  pub some : done ≤ length commands
  pub replies : List ℕ
  pub middle : Run
  pub driven : Drives first driver (take done commands) replies middle
  pub more : List ℕ
  pub behind : IsBehind middle done more
  pub written : Appends held held' (front ++ (replies ++ more))
  pub keeps : tells → (file : List ℕ) → images file → KeepsSome first commands done file

-- what stands behind the replies: where the sink failed a front of the next one, and else nothing
abbrev pub BehindReplies : List Command → Cut → Run → ℕ → List ℕ → Type 0
BehindReplies commands cut.Sink r done more = (line : List ℕ) × IsReplyTo r commands done line × IsFront line more
BehindReplies commands other r done more = more ≡ []

-- what would have come next: a reply, the report after all replies, or the line of a disk that failed
abbrev pub IsNext : List Command → Run → ℕ → List ℕ → Type 0
IsNext commands r done line =
    IsReplyTo r commands done line ⊎ (((done ≡ length commands) × (line ≡ driven_report r)) ⊎ (line ≡ disk_line))

-- what stands behind the replies where a call ends so
abbrev pub BehindStatus : List Command → KeepStatus → Run → ℕ → List ℕ → Type 0
BehindStatus commands (ending.Of front.Memory) r done more = more ≡ []
BehindStatus commands ending.Disk r done more = more ≡ disk_line
BehindStatus commands (ending.Of front.WriteFault) r done more = (line : List ℕ) × IsNext commands r done line × IsFront line more
BehindStatus commands other r done more = ⊥

-- The session was gone through: every reply and the report were written, a read gives the history of that report, and so does a crash now.
pub record IsWhole (first : Run) (commands : List Command) (front : List ℕ) (status : KeepStatus)
    (held held' : Option (List ℕ)) (tells : Type 0) (seen : List ℕ) (images : List ℕ → Type 0) : Type 0 where
  pub driven : Driven
  pub session : IsSession first driver commands driven
  pub status_is : status ≡ ending.Of (ended driven.verdict)
  pub written : Appends held held' (front ++ driven_text driven)
  pub read : tells → Keeps driven.last.history seen
  pub durable : tells → (file : List ℕ) → images file → Keeps driven.last.history file

-- which count of faults rises
abbrev pub CountsCut : {T : Type 0} → ℕ → ℕ → ℕ → ℕ → Result T Cut → Type 0
CountsCut disk disk' sink sink' (Ok value) = (disk' ≡ disk) × (sink' ≡ sink)
CountsCut disk disk' sink sink' (Err cut.Memory) = (disk' ≡ disk) × (sink' ≡ sink)
CountsCut disk disk' sink sink' (Err cut.Sink) = (disk' ≡ disk) × (sink' ≡ sink + 1)
CountsCut disk disk' sink sink' (Err cut.Disk) = (disk' ≡ disk + 1) × (sink' ≡ sink)

-- the same, of one command
abbrev pub CountsServed : {T : Type 0} → ℕ → ℕ → Result T Cut → Type 0
CountsServed before now (Err cut.Disk) = now ≡ before + 1
CountsServed before now other = now ≡ before

-- the file keeps the history after the command that was cut; where the disk failed, that or the history before it
abbrev pub KeepsCut : List Entry → List Entry → Cut → List ℕ → Type 0
KeepsCut before after cut.Disk file = KeepsEither before after file
KeepsCut before after other file = Keeps after file

-- it is the disk that failed, or memory that was wanted, and not the sink
abbrev pub IsNoSink : Cut → Type 0
IsNoSink cut.Sink = ⊥
IsNoSink other = Unit {0}
