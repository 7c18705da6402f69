-- A map: a text of CSV, with an activity and an event in each row. Its first row may be a heading.
use Rattle.std.specs.Prelude.{◌≡◌, ◌==◌, ◌++◌, ◌∷◌, ℕ, Bool, true, false, List, [], Option, Some, None, length, slice_get}
use Rattle.csv.specs.Reading.{AreRecords, default_config, strip_bom}
use Rattle.csv.specs.Records.{field_at}
use Rattle.csv.specs.declared.parser.State.TheVariants as st
use Rattle.flow_log_cli.specs.Activities.{Spells}
use Rattle.flow_log_cli.specs.declared.renaming.MapRefusal.{MapRefusal}
use Rattle.flow_log_cli.specs.declared.renaming.MapRefusal.TheVariants.{NoPair, NoEvent, NoMemory}

-- it has an activity and the name of an event, which only a first row may lack
pub record IsGoodRow (events : List (List ℕ)) (first : Bool) (row : List (List ℕ)) : Type 0 where
  pub activity : List ℕ
  pub name : List ℕ
  pub of_activity : field_at row 0 ≡ Some activity
  pub by_name : field_at row 1 ≡ Some name
  pub known : first ≡ false → (event : ℕ) × Spells events name (Some event)

-- why a row is refused
abbrev pub IsRefusedRow : List (List ℕ) → Bool → List (List ℕ) → MapRefusal → Type 0
IsRefusedRow events first row (NoPair line) = (activity name : List ℕ) → field_at row 0 ≡ Some activity → ¬ (field_at row 1 ≡ Some name)
IsRefusedRow events first row (NoEvent line) = (first ≡ false) × (name : List ℕ) × (field_at row 1 ≡ Some name) × Spells events name None
IsRefusedRow events first row NoMemory = Unit {0}

abbrev pub is_first : ℕ → Bool
is_first place = place == 0

-- all rows are good
abbrev pub AreGoodRows : List (List ℕ) → List (List (List ℕ)) → Type 0
AreGoodRows events rows = (place : ℕ) (row : List (List ℕ)) → slice_get rows place ≡ Some row → IsGoodRow events (is_first place) row

-- the rows of a map's text; there are none without one
abbrev pub AreMapRows : Option (List ℕ) → List (List (List ℕ)) → Type 0
AreMapRows None rows = rows ≡ []
AreMapRows (Some text) rows = AreRecords default_config st.StartRecord (strip_bom text) rows
