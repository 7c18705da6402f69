-- What is out.
use Rattle.std.specs.Prelude.{ℕ, List, [], ◌∷◌, map, codes}
use Rattle.std.specs.Ordering.{nat_cmp}
use Rattle.std.specs.Cmp.Lexicographic.{slice_cmp}
use Rattle.std.specs.List.Sorted.{IsPermutation, IsSortedByKey, IsStableByKey}
use Rattle.flow_page.specs.Shown.{Shown, ShownSection, plain_row, tabled}
use Rattle.flow_folder_page.specs.declared.data.FolderCase.{FolderCase}
use Rattle.flow_folder_page.specs.declared.data.TaskHeld.{TaskHeld}
use Rattle.flow_folder_page.specs.declared.held.Held.{Held}

abbrev pub held_by : List ℕ → TaskHeld → Held
held_by case out = record { case = case; task = out.task; user = out.user; since = out.since }

abbrev pub held_of_case : FolderCase → List Held
held_of_case case = map (held_by case.case) case.out.items

abbrev pub since_of : Held → List ℕ
since_of held = held.since

-- the same, by the text of the time; what was taken at one time in the order of the cases
pub record IsOldestFirst (all held : List Held) : Type 0 where
  pub same : IsPermutation all held
  pub oldest_first : IsSortedByKey since_of (slice_cmp nat_cmp) held
  pub in_order : IsStableByKey since_of (slice_cmp nat_cmp) all held

abbrev pub held_row : Held → Shown
held_row held = plain_row held.case (held.task ∷ held.user ∷ held.since ∷ [])

abbrev pub held_section : List Held → ShownSection
held_section held =
    tabled (codes "Out, the oldest first") (codes "case" ∷ codes "task" ∷ codes "of" ∷ codes "since" ∷ []) (map held_row held)
    (codes "Nothing is out.")
