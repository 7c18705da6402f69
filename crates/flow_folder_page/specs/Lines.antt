-- What is shown of a case, from its line.
use Rattle.std.specs.Prelude.{◌≡◌, ℕ, String, List, [], Option, None, Some, map}
use Rattle.std.proofs.Common.{Vec, Global}
use Rattle.std.specs.Option.{option_map}
use Rattle.std.specs.String.{string_bytes}
use Rattle.flow_list.specs.declared.line.CaseLine.{CaseLine}
use Rattle.flow_list.specs.declared.taken.TaskOut.{TaskOut}
use Rattle.flow_list.specs.declared.steps.LeafName.{LeafName}
use Rattle.flow_list.specs.declared.tasks.Beginning.{Beginning}
use Rattle.flow_list.specs.Words.{name_of}
use Rattle.flow_folder_page.specs.declared.data.FolderCase.{FolderCase}
use Rattle.flow_folder_page.specs.declared.data.OpenTask.{OpenTask}
use Rattle.flow_folder_page.specs.declared.data.TaskHeld.{TaskHeld}

-- the names of users, by the names that the policy has
abbrev pub names_of : Option (List (List ℕ)) → List ℕ → List (List ℕ)
names_of users numbers = map (name_of users) numbers

abbrev pub users_shown : Option (Vec (List ℕ) Global) → Option (List (List ℕ))
users_shown users = option_map (λ v. v.items) users

abbrev pub named_users : Option (List (List ℕ)) → Option (Vec ℕ Global) → Option (List (List ℕ))
named_users users None = None
named_users users (Some numbers) = Some (names_of users numbers.items)

-- a task that may be begun, without where it lies in memory
pub record Opened : Type 0 where
  pub task : List ℕ
  pub users : Option (List (List ℕ))

abbrev pub open_shown : OpenTask → Opened
open_shown ready = record { task = ready.task; users = users_shown ready.users }

abbrev pub named_task : Option (List (List ℕ)) → Beginning → Opened
named_task users task = record { task = task.task.items; users = named_users users task.users }

abbrev pub told_task : TaskOut → TaskHeld
told_task task = record { task = task.task.items; user = string_bytes task.user; since = string_bytes task.since }

abbrev pub name_in_step : LeafName → List ℕ
name_in_step step = step.name.items

abbrev pub last_text : Option (String Global) → List ℕ
last_text None = []
last_text (Some last) = string_bytes last

-- each task and step of the line once, in order, users by their names
pub record IsCaseOf (users : Option (List (List ℕ))) (case : List ℕ) (line : CaseLine) (shown : FolderCase) : Type 0 where
  pub case_is : shown.case ≡ case
  pub state : shown.state ≡ line.state
  pub begin : map open_shown shown.begin.items ≡ map (named_task users) line.tasks.begin.items
  pub steps : shown.steps.items ≡ map name_in_step line.steps.free.items
  pub out : shown.out.items ≡ map told_task line.tasks.out.items
  pub waiting : shown.waiting.items ≡ map name_in_step line.steps.waiting.items
  pub last : shown.last ≡ last_text line.last
