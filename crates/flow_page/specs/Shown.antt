-- What a page has, without where it lies in memory.
use Rattle.std.specs.Prelude.{ℕ, Bool, false, List, [], ◌∷◌, map}
use Rattle.flow_page.specs.declared.data.Part.{Part}
use Rattle.flow_page.specs.declared.data.Part.TheVariants.{Text, Picture, Table}
use Rattle.flow_page.specs.declared.data.Row.{Row}
use Rattle.flow_page.specs.declared.data.Section.{Section}

pub record Shown : Type 0 where
  pub head : List ℕ
  pub cells : List (List ℕ)
  pub is_taken_back : Bool

abbrev pub shown : Row → Shown
shown row = record { head = row.head; cells = row.cells.items; is_taken_back = row.is_taken_back }

pub data ShownPart : Type 0 where
  words : List ℕ → ShownPart
  picture : List ℕ → ShownPart
  -- the heads of the columns, and the rows
  table : List (List ℕ) → List Shown → ShownPart

abbrev pub shown_part : Part → ShownPart
shown_part (Text text) = words text
shown_part (Picture svg) = picture svg.items
shown_part (Table t) = table t.heads.items (map shown t.rows.items)

pub record ShownSection : Type 0 where
  pub heading : List ℕ
  pub parts : List ShownPart

abbrev pub shown_section : Section → ShownSection
shown_section section = record { heading = section.heading; parts = map shown_part section.parts.items }

-- a row of nothing that was taken back
abbrev pub plain_row : List ℕ → List (List ℕ) → Shown
plain_row head cells = record { head = head; cells = cells; is_taken_back = false }

abbrev pub told : List ℕ → List ℕ → ShownSection
told heading text = record { heading = heading; parts = words text ∷ [] }

-- a table of these columns and rows; words in its place where there is no row
abbrev pub tabled : List ℕ → List (List ℕ) → List Shown → List ℕ → ShownSection
tabled heading heads [] text = told heading text
tabled heading heads (row ∷ rows) text = record { heading = heading; parts = table heads (row ∷ rows) ∷ [] }
