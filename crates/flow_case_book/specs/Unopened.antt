-- Why a case is not taken up, part by part: its entries, its trail, its run.
use Rattle.std.specs.Prelude.{◌≡◌, ◌⊎◌, ℕ, List, length}
use Rattle.flow_model.specs.declared.history.Entry.{Entry}
use Rattle.flow_form.specs.Script.{Said}
use Rattle.flow_case.specs.declared.case_run.CaseRun.{CaseRun}
use Rattle.flow_case.specs.CaseRun.{IsFirstUnmade}
use Rattle.flow_keep.specs.Records.{Keeps}
use Rattle.flow_trail.specs.declared.line.TrailEnd.{TrailEnd}
use Rattle.flow_case_begin.specs.declared.stop.CaseStop.{CaseStop}
use Rattle.flow_case_begin.specs.declared.stop.CaseStop.TheVariants.{Workflow, Policy, LongPolicy, Foreign, Trail, Disk, NoMemory}
use Rattle.flow_case_begin.specs.Stops.{IsUnbegun, IsForeignTo, IsBadTrail}

-- the entries are not kept entries of a run of what is said
abbrev pub IsUnkept : Said → List ℕ → CaseStop → Type 0
IsUnkept s file (Foreign index) = IsForeignTo s file index
IsUnkept s file Disk = Unit {0}
IsUnkept s file NoMemory = Unit {0}
IsUnkept s file other = IsUnbegun s other

-- the trail is none of so many entries
abbrev pub IsUntold : TrailEnd → ℕ → List ℕ → CaseStop → Type 0
IsUntold start count file (Trail why) = IsBadTrail start count file why
IsUntold start count file Disk = Unit {0}
IsUntold start count file NoMemory = Unit {0}
IsUntold start count file other = ⊥

-- the case may not make the entries
abbrev pub IsUnmade : CaseRun → List Entry → CaseStop → Type 0
IsUnmade begun entries (Foreign index) = IsFirstUnmade begun entries index
IsUnmade begun entries other = ⊥

-- one of these
abbrev pub IsNotTakenUp : Said → CaseRun → TrailEnd → List ℕ → List ℕ → CaseStop → Type 0
IsNotTakenUp s begun start file trail stop = IsUnkept s file stop
    ⊎ ((kept : List Entry) × Keeps kept file × (IsUntold start (length kept) trail stop ⊎ IsUnmade begun kept stop))
