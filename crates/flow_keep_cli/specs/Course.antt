-- What comes of a call: it is cut off before its session, or within it, or its session is gone through.
use Rattle.std.specs.Prelude.{◌≡◌, ◌<◌, ◌⊎◌, ◌+◌, ℕ, List, length, Option, Some, None}
use Rattle.std.specs.Io.KnownBytes.{Appends}
use Rattle.flow_model.specs.declared.history.Entry.{Entry}
use Rattle.flow_model.specs.Lists.{Each}
use Rattle.flow_workflow.specs.Definition.{Definition, schema_of}
use Rattle.flow_model.specs.Verdict.{drive_verdict}
use Rattle.flow_core.specs.Run.{Run, schema}
use Rattle.flow_record.specs.declared.command.Command.{Command}
use Rattle.flow_record.specs.History.{IsSmall}
use Rattle.flow_io.specs.Sink.{AppendsPart}
use Rattle.flow_disk.specs.Disk.{Rests}
use Rattle.flow_keep.specs.Records.{records, Keeps}
use Rattle.flow_keep.specs.Opened.{KeepsRecords, IsForeign, HasNoForeign}
use Rattle.flow_front.specs.declared.status.Status.TheVariants as front
use Rattle.flow_keep.specs.declared.refusal.KeepRefusal.TheVariants as keep
use Rattle.flow_keep_cli.specs.declared.begin.Hindrance.{Hindrance}
use Rattle.flow_keep_cli.specs.declared.begin.Hindrance.TheVariants as hindrance
use Rattle.flow_keep_cli.specs.declared.status.KeepStatus.{KeepStatus}
use Rattle.flow_keep_cli.specs.declared.status.KeepStatus.TheVariants as ending
use Rattle.flow_keep_cli.specs.Lines.{kept_line, open_line, disk_line, foreign_line}
use Rattle.flow_keep_cli.specs.Session as session
use Rattle.flow_keep_cli.specs.Session.{driven_report, BehindStatus, IsCut}
use Rattle.flow_reply.specs.Verdict.{ended}
use Rattle.flow_keep_cli.specs.Asked.{Wanted, IsWanted, NeedsNoDisk}

-- the text is written with that status, or after a write that failed a front of it, and not all
abbrev pub IsSaid : KeepStatus → List ℕ → Option (List ℕ) → Option (List ℕ) → KeepStatus → Type 0
IsSaid status text held held' result =
    ((result ≡ status) × Appends held held' text) ⊎ ((result ≡ ending.Of front.WriteFault) × AppendsPart held held' text)

-- there was no memory, and nothing was written
abbrev pub IsSilent : Option (List ℕ) → Option (List ℕ) → KeepStatus → Type 0
IsSilent held held' result = (result ≡ ending.Of front.Memory) × (held' ≡ held)

-- the report of a driven run is written, with the status of what it came to
abbrev pub IsReported : Run → Option (List ℕ) → Option (List ℕ) → KeepStatus → Type 0
IsReported r held held' result = IsSaid (ending.Of (ended (drive_verdict (schema r) r.limit r.history))) (driven_report r) held held' result ⊎ IsSilent held held' result

-- the first line is not written whole: there was no memory for it, or the sink failed within it
abbrev pub IsFirstLine : List Entry → Option (List ℕ) → Option (List ℕ) → KeepStatus → Type 0
IsFirstLine history held held' result =
    IsSilent held held' result ⊎ ((result ≡ ending.Of front.WriteFault) × AppendsPart held held' (kept_line (length history)))

-- it is said why a session is not begun
abbrev pub IsTold : Hindrance → Option (List ℕ) → Option (List ℕ) → KeepStatus → Type 0
IsTold hindrance.Open held held' result = IsSaid ending.Disk open_line held held' result
IsTold (hindrance.Later keep.DiskFault) held held' result = IsSaid ending.Disk disk_line held held' result
IsTold (hindrance.Later (keep.Foreign index)) held held' result = IsSaid (ending.Of front.Input) (foreign_line index) held held' result ⊎ IsSilent held held' result
IsTold (hindrance.Later keep.NoMemory) held held' result = IsSilent held held' result

-- the run that goes on from these entries
abbrev pub run_from : Definition → ℕ → List Entry → Run
run_from w steps history = record { definition = w; limit = steps; history = history }

-- what a read gave when the call began keeps this history of the workflow, and no foreign record
pub record IsFound (tells : Type 0) (seen : List ℕ) (w : Definition) (steps : ℕ) (history : List Entry) : Type 0 where
  pub small : Each IsSmall history
  pub keeps : tells → Keeps history seen
  pub all : tells → HasNoForeign (schema_of w) steps (records seen)

-- Help is given, or the words or the source are refused, and the disk is as it was.
abbrev pub IsAnsweredAlone : {D : Type 0} → List (List ℕ) → Option (List ℕ) → D → D → Option (List ℕ) → Option (List ℕ) → KeepStatus → Type 0
IsAnsweredAlone words source disk disk' held held' result =
    (disk' ≡ disk) × ((status : KeepStatus) × ((text : List ℕ) × NeedsNoDisk words source status text × IsSaid status text held held' result))

module _ {D : Type 0} (tells : Type 0) (moment : D → ℕ) (image : D → ℕ → List ℕ → Type 0) (synced : D → ℕ → Type 0) (seen : D → List ℕ) (faults : D → ℕ)
    (chosen : D → Option ℕ) (file_at : List ℕ → ℕ) where
  -- the file of that path is chosen
  abbrev pub IsAt : List ℕ → D → Type 0
  IsAt path disk = chosen disk ≡ Some (file_at path)

  -- neither what a read gives nor any image was changed
  abbrev pub IsQuiet : D → D → Type 0
  IsQuiet disk disk' = tells → Rests (moment disk) (moment disk') (seen disk) (seen disk') (image disk) (image disk') (synced disk) (synced disk')

  -- from the first sync of the call on each image keeps the records that a read gave at its beginning, and until then each image is one that
  -- a crash could have left at its beginning
  abbrev pub IsSafe : D → D → Type 0
  IsSafe disk disk' = tells → KeepsRecords moment image synced seen disk disk'

  -- Why a session is not begun: the disk failed in its first call, which is to choose the file of that path, and none is chosen; or in a later
  -- one, with that file chosen; or else the record of that number is foreign, and the file is as it was.
  abbrev pub IsHindered : List ℕ → Definition → ℕ → D → Hindrance → D → Type 0
  IsHindered path w steps disk hindrance.Open disk' = IsQuiet disk disk' × (faults disk' ≡ faults disk + 1) × (chosen disk' ≡ None)
  IsHindered path w steps disk (hindrance.Later keep.DiskFault) disk' =
      ((opened : D) × IsQuiet disk opened × (faults opened ≡ faults disk) × (faults opened < faults disk')) × IsAt path disk'
  IsHindered path w steps disk (hindrance.Later (keep.Foreign index)) disk' =
      ¬ (faults disk < faults disk') × (tells → IsForeign (schema_of w) steps (records (seen disk)) index) × (tells → seen disk' ≡ seen disk)
      × IsAt path disk'
  IsHindered path w steps disk (hindrance.Later keep.NoMemory) disk' = ¬ (faults disk < faults disk') × IsAt path disk'

  -- The session is not begun. It is said why, or there was no memory for the first line, or the sink failed within it.
  abbrev pub IsNotBegun : List ℕ → Definition → ℕ → D → D → Option (List ℕ) → Option (List ℕ) → KeepStatus → Type 0
  IsNotBegun path w steps disk disk' held held' result =
      ((why : Hindrance) × IsHindered path w steps disk why disk' × IsTold why held held' result)
      ⊎ (¬ (faults disk < faults disk') × IsAt path disk'
      × ((history : List Entry) × IsFound tells (seen disk) w steps history × IsFirstLine history held held' result))

  -- After the first line was written whole the disk or the sink failed, or there was no memory.
  pub record IsCutShort (path : List ℕ) (w : Definition) (steps : ℕ) (commands : List Command) (disk disk' : D) (held held' : Option (List ℕ)) (result : KeepStatus) : Type 0 where
    pub file : IsAt path disk'
    pub history : List Entry
    pub found : IsFound tells (seen disk) w steps history
    pub cut : IsCut (run_from w steps history) commands (BehindStatus commands result) (kept_line (length history)) held held' tells
        (image disk' (moment disk'))

  -- The session was gone through.
  pub record IsGoneThrough (path : List ℕ) (w : Definition) (steps : ℕ) (commands : List Command) (disk disk' : D) (held held' : Option (List ℕ)) (result : KeepStatus) : Type 0 where
    pub file : IsAt path disk'
    pub history : List Entry
    pub found : IsFound tells (seen disk) w steps history
    pub whole : session.IsWhole (run_from w steps history) commands (kept_line (length history)) result held held' tells (seen disk')
        (image disk' (moment disk'))

  -- what comes of a session that is wanted
  abbrev pub IsCourse : List ℕ → Definition → ℕ → List Command → D → D → Option (List ℕ) → Option (List ℕ) → KeepStatus → Type 0
  IsCourse path w steps commands disk disk' held held' result =
      (IsSafe disk disk' × IsNotBegun path w steps disk disk' held held' result)
      ⊎ (IsCutShort path w steps commands disk disk' held held' result ⊎ IsGoneThrough path w steps commands disk disk' held held' result)

  -- ---- the three cases

  -- Before: the first line was not written whole.
  pub record IsBefore (words : List (List ℕ)) (source : Option (List ℕ)) (disk disk' : D) (held held' : Option (List ℕ)) (result : KeepStatus) : Type 0 where
    pub safe : IsSafe disk disk'
    pub came : IsAnsweredAlone words source disk disk' held held' result
        ⊎ (((disk' ≡ disk) × IsSilent held held' result)
        ⊎ ((wanted : Wanted) × IsWanted words source wanted × IsNotBegun wanted.path wanted.workflow wanted.steps disk disk' held held' result))

  -- Cut: it was, and the session was cut short.
  abbrev pub IsCutOff : List (List ℕ) → Option (List ℕ) → D → D → Option (List ℕ) → Option (List ℕ) → KeepStatus → Type 0
  IsCutOff words source disk disk' held held' result =
      (wanted : Wanted) × IsWanted words source wanted × IsCutShort wanted.path wanted.workflow wanted.steps wanted.commands disk disk' held held' result

  -- Whole: the session was gone through.
  abbrev pub IsDriven : List (List ℕ) → Option (List ℕ) → D → D → Option (List ℕ) → Option (List ℕ) → KeepStatus → Type 0
  IsDriven words source disk disk' held held' result =
      (wanted : Wanted) × IsWanted words source wanted × IsGoneThrough wanted.path wanted.workflow wanted.steps wanted.commands disk disk' held held' result

-- the call ended with what a run came to, or with a workflow that no execution meets
abbrev pub IsOver : KeepStatus → Type 0
IsOver (ending.Of front.Fine) = Unit {0}
IsOver (ending.Of front.No) = Unit {0}
IsOver (ending.Of front.Spent) = Unit {0}
IsOver other = ⊥

-- a refusal of what was given
abbrev pub IsRefusal : KeepStatus → Type 0
IsRefusal (ending.Of front.Words) = Unit {0}
IsRefusal (ending.Of front.Input) = Unit {0}
IsRefusal (ending.Of front.ReadFault) = Unit {0}
IsRefusal other = ⊥

-- what may come at every moment
abbrev pub IsMishap : KeepStatus → Type 0
IsMishap (ending.Of front.WriteFault) = Unit {0}
IsMishap (ending.Of front.Memory) = Unit {0}
IsMishap ending.Disk = Unit {0}
IsMishap other = ⊥

-- the call ended so with its source read to the end
abbrev pub ReadsWhole : KeepStatus → Type 0
ReadsWhole ending.Disk = Unit {0}
ReadsWhole other = IsOver other
