-- What waits for whom.
use Rattle.std.specs.Prelude.{ℕ, nat_eq, Bool, true, false, ◌&&◌, if◌then◌else◌, List, [], ◌∷◌, ◌++◌, Option, None, Some, length, map, codes}
use Rattle.std.proofs.Common.{Vec, Global}
use Rattle.std.specs.Cmp.Lexicographic.{pointwise}
use Rattle.std.specs.List.{flat_map}
use Rattle.std.specs.Fmt.{decimal}
use Rattle.flow_page.specs.Shown.{Shown, ShownSection, plain_row, tabled}
use Rattle.flow_folder_page.specs.declared.data.FolderCase.{FolderCase}
use Rattle.flow_folder_page.specs.declared.data.OpenTask.{OpenTask}
use Rattle.flow_folder_page.specs.declared.waits.Wait.{Wait}
use Rattle.flow_folder_page.specs.Cells.{listed}

abbrev pub wait_by : List ℕ → List ℕ → List ℕ → Wait
wait_by case task user = record { user = user; task = task; case = case }

abbrev pub waits_on : List ℕ → List ℕ → List (List ℕ) → List Wait
waits_on case task users = map (wait_by case task) users

abbrev pub waits_by : List ℕ → List ℕ → Option (Vec (List ℕ) Global) → List Wait
waits_by case task None = []
waits_by case task (Some users) = waits_on case task users.items

-- a task waits for each user to whom duties leave it
abbrev pub waits_of_task : List ℕ → OpenTask → List Wait
waits_of_task case ready = waits_by case ready.task ready.users

abbrev pub waits_of_case : FolderCase → List Wait
waits_of_case case = flat_map (waits_of_task case.case) case.begin.items

abbrev pub same : List ℕ → List ℕ → Bool
same text other = pointwise nat_eq text other

abbrev pub has_name : List ℕ → List (List ℕ) → Bool
has_name name [] = false
has_name name (one ∷ names) = if same one name then true else has_name name names

abbrev pub with_name : List (List ℕ) → List ℕ → List (List ℕ)
with_name names name = if has_name name names then names else names ++ name ∷ []

-- the users of what waits, besides those found, each once
abbrev pub users_in : List (List ℕ) → List Wait → List (List ℕ)
users_in found [] = found
users_in found (wait ∷ waits) = users_in (with_name found wait.user) waits

-- the tasks that wait for the user, besides those found, each once
abbrev pub with_task : List ℕ → List (List ℕ) → Wait → List (List ℕ)
with_task user found wait = if same wait.user user then with_name found wait.task else found

abbrev pub tasks_for : List ℕ → List (List ℕ) → List Wait → List (List ℕ)
tasks_for user found [] = found
tasks_for user found (wait ∷ waits) = tasks_for user (with_task user found wait) waits

abbrev pub is_of : List ℕ → List ℕ → Wait → Bool
is_of user task wait = same wait.user user && same wait.task task

-- just the cases in which the task waits for the user, in order
abbrev pub cases_for : List ℕ → List ℕ → List Wait → List (List ℕ)
cases_for user task [] = []
cases_for user task (wait ∷ waits) = if is_of user task wait then wait.case ∷ cases_for user task waits else cases_for user task waits

-- in how many cases the task waits for the user, and in which
abbrev pub task_row : List Wait → List ℕ → List ℕ → Shown
task_row waits user task =
    plain_row user (task ∷ decimal (length (cases_for user task waits)) ∷ listed 0 (cases_for user task waits) ∷ [])

abbrev pub user_rows : List Wait → List ℕ → List Shown
user_rows waits user = map (task_row waits user) (tasks_for user [] waits)

-- each user once, with each task once that waits for him
abbrev pub wait_rows : List Wait → List Shown
wait_rows waits = flat_map (user_rows waits) (users_in [] waits)

abbrev pub wait_section : List FolderCase → ShownSection
wait_section cases =
    tabled (codes "What waits for whom") (codes "user" ∷ codes "task" ∷ codes "cases" ∷ codes "which" ∷ [])
    (wait_rows (flat_map waits_of_case cases)) (codes "Nothing waits for a user.")
