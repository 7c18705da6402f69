-- The cases that are stuck, and those that are damaged.
use Rattle.std.specs.Prelude.{ℕ, Bool, true, false, if◌then◌else◌, List, [], ◌∷◌, ◌++◌, Option, None, Some, map, codes}
use Rattle.std.proofs.Common.{Vec, Global}
use Rattle.std.specs.List.{flat_map}
use Rattle.flow_case_state.specs.declared.state.CaseState.{CaseState}
use Rattle.flow_case_state.specs.declared.state.CaseState.TheVariants.{Open, Waiting, Finished, StuckByFacts, StuckByDuties, Committed}
use Rattle.flow_case_state.specs.Words.{word_of}
use Rattle.flow_draw.specs.Pieces.{joined}
use Rattle.flow_page.specs.Shown.{Shown, ShownSection, plain_row, tabled}
use Rattle.flow_folder_page.specs.declared.data.DamagedCase.{DamagedCase}
use Rattle.flow_folder_page.specs.declared.data.FolderCase.{FolderCase}
use Rattle.flow_folder_page.specs.declared.data.OpenTask.{OpenTask}
use Rattle.flow_folder_page.specs.Cells.{listed}

abbrev pub is_stuck : CaseState → Bool
is_stuck Open = false
is_stuck Waiting = false
is_stuck Finished = false
is_stuck StuckByFacts = true
is_stuck StuckByDuties = true
is_stuck Committed = false

abbrev pub barred_text : List ℕ → List ℕ
barred_text task = joined (codes "somebody who may take " ∷ task ∷ [])

abbrev pub barred_for : List ℕ → List (List ℕ) → List (List ℕ)
barred_for task [] = barred_text task ∷ []
barred_for task (user ∷ users) = []

abbrev pub barred_by : List ℕ → Option (Vec (List ℕ) Global) → List (List ℕ)
barred_by task None = []
barred_by task (Some users) = barred_for task users.items

-- the task, where duties leave it to nobody
abbrev pub barred_task : OpenTask → List (List ℕ)
barred_task ready = barred_by ready.task ready.users

-- those tasks, and then the tests that are false now
abbrev pub waits_for : FolderCase → List (List ℕ)
waits_for case = flat_map barred_task case.begin.items ++ case.waiting.items

abbrev pub stuck_row : FolderCase → Shown
stuck_row case = plain_row case.case (word_of case.state ∷ listed 0 (waits_for case) ∷ case.last ∷ [])

abbrev pub stuck_rows_of : FolderCase → List Shown
stuck_rows_of case = if is_stuck case.state then stuck_row case ∷ [] else []

-- just the cases that are stuck, in order
abbrev pub stuck_section : List FolderCase → ShownSection
stuck_section cases =
    tabled (codes "Stuck") (codes "case" ∷ codes "state" ∷ codes "waits for" ∷ codes "last entry" ∷ []) (flat_map stuck_rows_of cases)
    (codes "No case is stuck.")

abbrev pub damaged_row : DamagedCase → Shown
damaged_row case = plain_row case.case (case.why ∷ [])

-- each case that is damaged, in order
abbrev pub damaged_section : List DamagedCase → ShownSection
damaged_section damaged =
    tabled (codes "Damaged") (codes "case" ∷ codes "why" ∷ []) (map damaged_row damaged) (codes "No case is damaged.")
