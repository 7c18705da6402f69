-- Why texts have no case, and why entries and a trail are not those of one.
use Rattle.std.specs.Prelude.{◌≡◌, ◌⊎◌, ◌<◌, ℕ, List, length, Option, Some}
use Rattle.flow_model.specs.declared.limits.TheConstants.{GREATEST_INPUT}
use Rattle.flow_form.specs.Script.{Said}
use Rattle.flow_text.specs.Saying.{Says}
use Rattle.flow_text.specs.Parser.{IsParseRefusal}
use Rattle.flow_workflow.specs.Definition.{Definition}
use Rattle.flow_expand.specs.Workflows.{IsExpanded}
use Rattle.flow_findings.specs.declared.refused.Refused.{Refused}
use Rattle.flow_findings.specs.declared.refused.Refused.TheVariants.{TooLong, Text}
use Rattle.flow_front.specs.Prepared.{IsNotPrepared}
use Rattle.flow_front.specs.Stop.{IsStop}
use Rattle.flow_model.specs.declared.history.Entry.{Entry}
use Rattle.flow_workflow.specs.Definition.{schema_of}
use Rattle.flow_case.specs.declared.case_run.CaseRun.{CaseRun}
use Rattle.flow_case.specs.CaseRun.{IsFirstUnmade}
use Rattle.flow_case.specs.CasePolicy.{IsCasePolicyRefusal}
use Rattle.flow_keep.specs.declared.refusal.KeepRefusal.{KeepRefusal}
use Rattle.flow_keep.specs.declared.refusal.KeepRefusal.TheVariants as keep
use Rattle.flow_keep.specs.Records.{records, Keeps}
use Rattle.flow_keep.specs.Opened.{IsForeign}
use Rattle.flow_trail.specs.declared.line.TrailEnd.{TrailEnd}
use Rattle.flow_trail.specs.declared.refusal.OpenRefusal.{OpenRefusal}
use Rattle.flow_trail.specs.declared.refusal.OpenRefusal.TheVariants as trail
use Rattle.flow_trail.specs.Lines.{end_of}
use Rattle.flow_trail.specs.Lines as lines
use Rattle.flow_trail.specs.Opened.{TellsCount}
use Rattle.flow_trail.specs.Read.{IsBadLine}
use Rattle.flow_case_begin.specs.declared.texts.TheConstants.{MOST_STEPS}
use Rattle.flow_case_begin.specs.declared.stop.CaseStop.{CaseStop}
use Rattle.flow_case_begin.specs.declared.stop.CaseStop.TheVariants.{Workflow, Policy, LongPolicy, Foreign, Trail, Disk, NoMemory}
use Rattle.flow_case_begin.specs.Begun.{IsCaseOf}

-- the text of the workflow says nothing
abbrev pub IsTextCause : List ℕ → Refused → Type 0
IsTextCause text TooLong = GREATEST_INPUT < length text
IsTextCause text (Text refusal) = IsParseRefusal text refusal
IsTextCause text other = ⊥

abbrev pub IsUnread : List ℕ → CaseStop → Type 0
IsUnread text (Workflow stop) = IsStop (IsTextCause text) stop
IsUnread text other = ⊥

-- the script gives no run; want of memory says nothing
abbrev pub IsUnbegun : Said → CaseStop → Type 0
IsUnbegun s (Workflow stop) = IsStop (IsNotPrepared s) stop
IsUnbegun s NoMemory = Unit {0}
IsUnbegun s other = ⊥

-- the policy is too long, or says nothing to a script with these events
abbrev pub IsUngoverned : List ℕ → Said → List (List ℕ) → CaseStop → Type 0
IsUngoverned text s events LongPolicy = GREATEST_INPUT < length text
IsUngoverned text s events (Policy refusal) = IsCasePolicyRefusal text s events refusal
IsUngoverned text s events other = ⊥

-- the script gives no run, or the policy says nothing to it
abbrev pub IsUnbegunBy : Said → Option (List ℕ) → CaseStop → Type 0
IsUnbegunBy s policy stop = IsUnbegun s stop
    ⊎ ((text : List ℕ) × (policy ≡ Some text) × ((w : Definition) × IsExpanded s w × IsUngoverned text s w.events stop))

-- the texts have no case: the workflow's says nothing, or what it says gives none
abbrev pub IsNoCaseOf : List ℕ → Option (List ℕ) → CaseStop → Type 0
IsNoCaseOf workflow policy stop = IsUnread workflow stop ⊎ ((s : Said) × Says workflow s × IsUnbegunBy s policy stop)

-- Entries and a trail

-- why entries are not taken up, and why a trail is not, as stops
abbrev pub of_keep : KeepRefusal → CaseStop
of_keep keep.DiskFault = Disk
of_keep (keep.Foreign index) = Foreign index
of_keep keep.NoMemory = NoMemory

abbrev pub of_trail : OpenRefusal → CaseStop
of_trail trail.DiskFault = Disk
of_trail trail.NoMemory = NoMemory
of_trail other = Trail other

-- the record at the place is the first of the file that tells no entry which comes next in a run of the workflow that is said
abbrev pub IsForeignTo : Said → List ℕ → ℕ → Type 0
IsForeignTo s file index = (w : Definition) × IsExpanded s w × IsForeign (schema_of w) MOST_STEPS (records file) index

-- the entry at the place, of those that the file keeps, is the first that the case of the texts may not make: duties or rules forbid it
abbrev pub IsForbidden : List ℕ → Option (List ℕ) → List ℕ → ℕ → Type 0
IsForbidden workflow policy file index =
    (begun : CaseRun) × (entries : List Entry) × IsCaseOf workflow policy begun × Keeps entries file × IsFirstUnmade begun entries index

-- The trail's line is the first that is none, by its spelling, its seal or its place; or the lines tell so many entries, which are neither
-- those that there are nor one more in the last line. Of a trail that is full nothing is said.
abbrev pub IsBadTrail : TrailEnd → ℕ → List ℕ → OpenRefusal → Type 0
IsBadTrail start count file (trail.BadLine line) = IsBadLine start file line
IsBadTrail start count file (trail.Count told) =
    (saying : List lines.Said) × lines.Says start saying file × ((end_of start saying).count ≡ told) × ¬ (TellsCount (end_of start saying) count)
IsBadTrail start count file trail.Full = Unit {0}
IsBadTrail start count file other = ⊥

-- The files with these entries and this trail, which begins there, are not those of a case of the texts. Of a disk that failed, and of want
-- of memory, nothing is said.
abbrev pub IsNoCaseIn : List ℕ → Option (List ℕ) → TrailEnd → List ℕ → List ℕ → CaseStop → Type 0
IsNoCaseIn workflow policy start entries trail (Foreign index) =
    ((s : Said) × Says workflow s × IsForeignTo s entries index) ⊎ IsForbidden workflow policy entries index
IsNoCaseIn workflow policy start entries trail (Trail why) = (kept : List Entry) × Keeps kept entries × IsBadTrail start (length kept) trail why
IsNoCaseIn workflow policy start entries trail Disk = Unit {0}
IsNoCaseIn workflow policy start entries trail NoMemory = Unit {0}
IsNoCaseIn workflow policy start entries trail other = IsNoCaseOf workflow policy other
