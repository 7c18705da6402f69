-- The line of a case.
use Rattle.std.specs.Prelude.{◌≡◌, ℕ, zero, suc, String, List, length, Option, None, slice_get}
use Rattle.std.proofs.Common.{Global}
use Rattle.std.specs.Option.{option_map}
use Rattle.std.specs.String.{string_bytes}
use Rattle.flow_case.specs.declared.case_run.CaseRun.{CaseRun}
use Rattle.flow_case.specs.declared.case_run.CaseRun.TheVariants.{Free, UnderPolicy}
use Rattle.flow_case.specs.CaseRun.{run_of}
use Rattle.flow_case_state.specs.declared.state.CaseState.{CaseState}
use Rattle.flow_case_state.specs.State.{StandsFree, StandsUnder}
use Rattle.flow_export.specs.declared.log_row.Teller.{Teller}
use Rattle.flow_list.specs.declared.line.CaseLine.{CaseLine}
use Rattle.flow_list.specs.Steps.{AreStepsOf}
use Rattle.flow_list.specs.Tasks.{AreTasksOf}

-- how a case stands, whose policy names so many users
abbrev pub Stands : CaseRun → ℕ → CaseState → Type 0
Stands (Free r) users state = StandsFree r state
Stands (UnderPolicy c) users state = StandsUnder c.desk users state

-- who made the last of so many entries
abbrev pub last_of : List Teller → ℕ → Option Teller
last_of told zero = None
last_of told (suc count) = slice_get told count

-- when it was made, as it is told
abbrev pub IsLastTold : List Teller → ℕ → Option (String Global) → Type 0
IsLastTold told count last = option_map string_bytes last ≡ option_map (λ (t : Teller). string_bytes t.at) (last_of told count)

pub record IsLineOf (c : CaseRun) (users : ℕ) (told : List Teller) (line : CaseLine) : Type 0 where
  pub state : Stands c users line.state
  pub tasks : AreTasksOf c users told line.tasks
  pub steps : AreStepsOf (run_of c) line.steps
  pub last : IsLastTold told (length (run_of c).history) line.last
