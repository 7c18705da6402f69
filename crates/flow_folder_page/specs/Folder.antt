-- The page of a folder of cases.
use Rattle.std.specs.Prelude.{◌≡◌, ℕ, List, [], ◌∷◌, ◌++◌, length, map, codes}
use Rattle.std.specs.List.{flat_map}
use Rattle.flow_draw.specs.Pieces.{joined}
use Rattle.flow_page.specs.declared.data.Page.{Page}
use Rattle.flow_page.specs.Shown.{ShownSection, shown_section}
use Rattle.flow_folder_page.specs.declared.data.DamagedCase.{DamagedCase}
use Rattle.flow_folder_page.specs.declared.data.FolderCase.{FolderCase}
use Rattle.flow_folder_page.specs.declared.held.Held.{Held}
use Rattle.flow_folder_page.specs.declared.shown.Folder.{Folder}
use Rattle.flow_folder_page.specs.All.{all_section}
use Rattle.flow_folder_page.specs.Free.{free_section}
use Rattle.flow_folder_page.specs.Held.{held_of_case, held_section, IsOldestFirst}
use Rattle.flow_folder_page.specs.Stand.{stand_section}
use Rattle.flow_folder_page.specs.Stuck.{stuck_section, damaged_section}
use Rattle.flow_folder_page.specs.Waits.{wait_section}

abbrev pub title_text : List ℕ → List ℕ → List ℕ
title_text path at = joined (path ∷ codes ", " ∷ at ∷ [])

-- how many cases stand how, what waits for whom, and what anybody may do
abbrev pub first_sections : List FolderCase → ℕ → List ShownSection
first_sections cases damaged = stand_section cases damaged ∷ wait_section cases ∷ free_section cases ∷ []

-- what is stuck, what is damaged, and all cases
abbrev pub last_sections : List FolderCase → List DamagedCase → List ShownSection
last_sections cases damaged = stuck_section cases ∷ damaged_section damaged ∷ all_section cases ∷ []

-- and what is out, between them
abbrev pub sections_of : List FolderCase → List DamagedCase → List Held → List ShownSection
sections_of cases damaged held = first_sections cases (length damaged) ++ held_section held ∷ last_sections cases damaged

pub record IsPageOf (folder : Folder) (page : Page) : Type 0 where
  -- what is out, the oldest first
  pub held : List Held
  pub oldest_first : IsOldestFirst (flat_map held_of_case folder.cases.now) held
  pub title : page.title ≡ title_text folder.path.now folder.at.now
  pub sections : map shown_section page.sections.items ≡ sections_of folder.cases.now folder.damaged.now held
