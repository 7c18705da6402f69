-- Names with a number each, of which the first that is noted counts.
use Rattle.std.specs.Prelude.{◌≡◌, ◌⊎◌, ◌<◌, ◌++◌, ◌∷◌, ℕ, List, [], length, Option, Some, slice_get, Contains}
use Rattle.csv.specs.Reading.{AreRecords, default_config, strip_bom}
use Rattle.csv.specs.declared.parser.State.TheVariants as st
use Rattle.flow_event_log.specs.Spelling.{spelling}
use Rattle.flow_log_cli.specs.Activities.{IsFirstSpelled, IsMapped, Says}
use Rattle.flow_log_cli.specs.declared.vocabulary.Vocabulary.{Vocabulary}
use Rattle.flow_log_cli.specs.Maps.{AreGoodRows, AreMapRows}

pub record HasNumber (names : List (List ℕ)) (numbers : List ℕ) (name : List ℕ) (number : ℕ) : Type 0 where
  pub place : ℕ
  pub there : slice_get names place ≡ Some name
  pub has : slice_get numbers place ≡ Some number

-- the name came already, and nothing changes; or it is new, and has the number
abbrev pub IsNoted : List (List ℕ) → List ℕ → List ℕ → ℕ → List (List ℕ) → List ℕ → Type 0
IsNoted names numbers name number more_names more_numbers =
    (Contains names name × (more_names ≡ names) × (more_numbers ≡ numbers))
    ⊎ (¬ Contains names name × (more_names ≡ names ++ name ∷ []) × (more_numbers ≡ numbers ++ number ∷ []))

-- the spellings of the first so many events, each with the first event that has it
pub record AreSpelled (events : List (List ℕ)) (count : ℕ) (spellings : List (List ℕ)) (numbers : List ℕ) : Type 0 where
  pub one_each : length numbers ≡ length spellings
  pub first : (k number : ℕ) (text : List ℕ) → slice_get spellings k ≡ Some text → slice_get numbers k ≡ Some number → IsFirstSpelled events text number
  pub all : (event : ℕ) (name : List ℕ) → event < count → slice_get events event ≡ Some name → Contains spellings (spelling name)

-- the table of a vocabulary has all events
abbrev pub IsVocabulary : Vocabulary → Type 0
IsVocabulary v = AreSpelled v.events.now (length v.events.now) v.table.names v.table.numbers.items

-- the activities of the rows of a map, each with the event that the rows give it
pub record AreMapped (events : List (List ℕ)) (rows : List (List (List ℕ))) (activities : List (List ℕ)) (numbers : List ℕ) : Type 0 where
  pub one_each : length numbers ≡ length activities
  pub first : (k number : ℕ) (activity : List ℕ) → slice_get activities k ≡ Some activity → slice_get numbers k ≡ Some number → IsMapped events rows activity number
  pub all : (place event : ℕ) (row : List (List ℕ)) (activity : List ℕ) → slice_get rows place ≡ Some row → Says events row activity event → Contains activities activity

-- the rows of the text are good, and these are their activities, each with its event
pub record IsMapOf (events : List (List ℕ)) (text : List ℕ) (activities : List (List ℕ)) (numbers : List ℕ) : Type 0 where
  pub rows : List (List (List ℕ))
  pub are : AreRecords default_config st.StartRecord (strip_bom text) rows
  pub good : AreGoodRows events rows
  pub mapped : AreMapped events rows activities numbers

-- the same of a map, or of none
pub record IsRenaming (events : List (List ℕ)) (map : Option (List ℕ)) (activities : List (List ℕ)) (numbers : List ℕ) : Type 0 where
  pub rows : List (List (List ℕ))
  pub are : AreMapRows map rows
  pub good : AreGoodRows events rows
  pub mapped : AreMapped events rows activities numbers
