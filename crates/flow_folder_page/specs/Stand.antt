-- How many cases stand how.
use Rattle.std.specs.Prelude.{ℕ, suc, ◌==◌, Bool, if◌then◌else◌, List, [], ◌∷◌, ◌++◌, map, codes}
use Rattle.std.specs.Fmt.{decimal}
use Rattle.flow_case_state.specs.declared.state.CaseState.{CaseState}
use Rattle.flow_case_state.specs.declared.state.CaseState.TheVariants.{Open, Waiting, Finished, StuckByFacts, StuckByDuties, Committed}
use Rattle.flow_case_state.specs.Words.{word_of}
use Rattle.flow_page.specs.Shown.{Shown, ShownSection, plain_row, tabled}
use Rattle.flow_folder_page.specs.declared.data.FolderCase.{FolderCase}

abbrev pub place_of : CaseState → ℕ
place_of Open = 0
place_of Waiting = 1
place_of Finished = 2
place_of StuckByFacts = 3
place_of StuckByDuties = 4
place_of Committed = 5

abbrev pub stands : CaseState → FolderCase → Bool
stands state case = place_of case.state == place_of state

-- how many of the cases stand so
abbrev pub count_in : CaseState → List FolderCase → ℕ
count_in state [] = 0
count_in state (case ∷ cases) = if stands state case then suc (count_in state cases) else count_in state cases

abbrev pub number_row : List ℕ → ℕ → Shown
number_row word number = plain_row word (decimal number ∷ [])

abbrev pub state_row : List FolderCase → CaseState → Shown
state_row cases state = number_row (word_of state) (count_in state cases)

-- each state once, and so many that are damaged
abbrev pub stand_rows : List FolderCase → ℕ → List Shown
stand_rows cases damaged =
    map (state_row cases) (Open ∷ Waiting ∷ Finished ∷ StuckByFacts ∷ StuckByDuties ∷ Committed ∷ [])
    ++ number_row (codes "damaged") damaged ∷ []

unfoldable pub stand_section : List FolderCase → ℕ → ShownSection
stand_section cases damaged =
    tabled (codes "How the cases stand") (codes "state" ∷ codes "cases" ∷ []) (stand_rows cases damaged) (codes "There is no case.")
