-- What anybody may begin or do.
use Rattle.std.specs.Prelude.{ℕ, List, [], ◌∷◌, ◌++◌, Option, None, Some, codes}
use Rattle.std.proofs.Common.{Vec, Global}
use Rattle.std.specs.List.{flat_map}
use Rattle.flow_page.specs.Shown.{Shown, ShownSection, plain_row, tabled}
use Rattle.flow_folder_page.specs.declared.data.FolderCase.{FolderCase}
use Rattle.flow_folder_page.specs.declared.data.OpenTask.{OpenTask}
use Rattle.flow_folder_page.specs.Cells.{listed}

abbrev pub free_for : List ℕ → Option (Vec (List ℕ) Global) → List (List ℕ)
free_for task None = task ∷ []
free_for task (Some users) = []

-- the task, where no policy says who may begin it
abbrev pub free_task : OpenTask → List (List ℕ)
free_task ready = free_for ready.task ready.users

-- those tasks, and then the tests and updates
abbrev pub free_texts : FolderCase → List (List ℕ)
free_texts case = flat_map free_task case.begin.items ++ case.steps.items

abbrev pub some_row : List ℕ → List (List ℕ) → List Shown
some_row case [] = []
some_row case (text ∷ texts) = plain_row case (listed 0 (text ∷ texts) ∷ []) ∷ []

abbrev pub free_row : FolderCase → List Shown
free_row case = some_row case.case (free_texts case)

-- just the cases that have such, in order
abbrev pub free_section : List FolderCase → ShownSection
free_section cases =
    tabled (codes "What anybody may do") (codes "case" ∷ codes "tasks and steps" ∷ []) (flat_map free_row cases)
    (codes "Nothing waits for just anybody.")
