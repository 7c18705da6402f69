-- Which lines are shown.
use Rattle.std.specs.Prelude.{◌≡◌, ◌≢◌, ◌≤◌, ◌⊎◌, ℕ, String, List, [], Option, None, Some}
use Rattle.std.proofs.Common.{Vec, Global}
use Rattle.std.specs.String.{string_bytes}
use Rattle.flow_model.specs.Lists.{◌∈◌}
use Rattle.flow_case.specs.RulesOf.{IsUser}
use Rattle.flow_case_seen.specs.Texts.{Shared}
use Rattle.flow_case_state.specs.declared.state.CaseState.{CaseState}
use Rattle.flow_list.specs.declared.line.CaseLine.{CaseLine}
use Rattle.flow_list.specs.declared.filter.Filter.{Filter}
use Rattle.flow_list.specs.declared.taken.TaskOut.{TaskOut}
use Rattle.flow_list.specs.declared.tasks.Beginning.{Beginning}

-- the policy has a user of that number and name
abbrev pub IsUserOf : Option (List (List ℕ)) → ℕ → List ℕ → Type 0
IsUserOf None number name = ⊥
IsUserOf (Some users) number name = IsUser users number name

abbrev pub IsNamedIn : Option (List (List ℕ)) → List ℕ → List ℕ → Type 0
IsNamedIn users numbers name = (number : ℕ) × (number ∈ numbers) × IsUserOf users number name

-- the task may be begun by anybody, or by the user of that name
abbrev pub MayBegin : Option (List (List ℕ)) → List ℕ → Option (Vec ℕ Global) → Type 0
MayBegin users name None = Unit {0}
MayBegin users name (Some numbers) = IsNamedIn users numbers.items name

abbrev pub IsBegunBy : Option (List (List ℕ)) → List ℕ → Beginning → Type 0
IsBegunBy users name task = MayBegin users name task.users

abbrev pub SomeBegin : Option (List (List ℕ)) → List ℕ → List Beginning → Type 0
SomeBegin users name tasks = (task : Beginning) × (task ∈ tasks) × IsBegunBy users name task

-- the user has one of the tasks
abbrev pub SomeOut : List ℕ → List TaskOut → Type 0
SomeOut name tasks = (task : TaskOut) × (task ∈ tasks) × (string_bytes task.user ≡ name)

-- the case waits for the user: who may begin a task, has one, or may do a step, as anybody may
abbrev pub IsFor : Option (List (List ℕ)) → List ℕ → CaseLine → Type 0
IsFor users name line = SomeBegin users name line.tasks.begin.items ⊎ (SomeOut name line.tasks.out.items ⊎ (line.steps.free.items ≢ []))

-- each of these holds where it is not asked for
abbrev pub IsForAny : Option (List (List ℕ)) → Option (String Global) → CaseLine → Type 0
IsForAny users None line = Unit {0}
IsForAny users (Some user) line = IsFor users (string_bytes user) line

abbrev pub IsIn : Option CaseState → CaseLine → Type 0
IsIn None line = Unit {0}
IsIn (Some state) line = line.state ≡ state

-- the last entry was made at that second or before it, which is known
abbrev pub IsOld : Option ℕ → Option ℕ → Type 0
IsOld None second = Unit {0}
IsOld (Some until) (Some second) = second ≤ until
IsOld (Some until) None = ⊥

abbrev pub HasText : Shared → Option (Vec ℕ Global) → Type 0
HasText texts None = Unit {0}
HasText texts (Some workflow) = texts.workflow ≡ workflow.items

-- a line is shown exactly where it meets each that is asked for
pub record IsShown (filter : Filter) (texts : Shared) (line : CaseLine) (second : Option ℕ) : Type 0 where
  pub user : IsForAny texts.users filter.user line
  pub state : IsIn filter.state line
  pub old : IsOld filter.until second
  pub workflow : HasText texts filter.workflow
