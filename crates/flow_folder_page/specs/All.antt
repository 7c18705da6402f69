-- All cases that are not damaged.
use Rattle.std.specs.Prelude.{ℕ, List, [], ◌∷◌, ◌++◌, map, codes}
use Rattle.flow_case_state.specs.Words.{word_of}
use Rattle.flow_page.specs.Shown.{Shown, ShownSection, plain_row, tabled}
use Rattle.flow_folder_page.specs.declared.data.FolderCase.{FolderCase}
use Rattle.flow_folder_page.specs.declared.data.OpenTask.{OpenTask}
use Rattle.flow_folder_page.specs.declared.data.TaskHeld.{TaskHeld}
use Rattle.flow_folder_page.specs.Cells.{listed}

abbrev pub open_task : OpenTask → List ℕ
open_task ready = ready.task

abbrev pub task_held : TaskHeld → List ℕ
task_held held = held.task

-- the tasks that may be begun, and the tests and updates that may be done
abbrev pub begun_texts : FolderCase → List (List ℕ)
begun_texts case = map open_task case.begin.items ++ case.steps.items

abbrev pub case_row : FolderCase → Shown
case_row case =
    plain_row case.case (word_of case.state ∷ listed 0 (begun_texts case) ∷ listed 0 (map task_held case.out.items) ∷ case.last ∷ [])

-- each case once, in order
abbrev pub all_section : List FolderCase → ShownSection
all_section cases =
    tabled (codes "All cases") (codes "case" ∷ codes "state" ∷ codes "may be begun" ∷ codes "out" ∷ codes "last entry" ∷ [])
    (map case_row cases) (codes "There is no case that can be read.")
