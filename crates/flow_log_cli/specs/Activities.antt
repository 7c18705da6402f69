-- Which event an activity of a log stands for. Activities and events are told by their names.
use Rattle.std.specs.Prelude.{◌≡◌, ◌<◌, ◌+◌, ℕ, List, length, Option, Some, None, slice_get, unwrap_or}
use Rattle.csv.specs.Records.{field_at}
use Rattle.flow_event_log.specs.Spelling.{spelling}

-- it is the first of the events with that spelling
pub record IsFirstSpelled (events : List (List ℕ)) (text : List ℕ) (event : ℕ) : Type 0 where
  pub name : List ℕ
  pub there : slice_get events event ≡ Some name
  pub spelled : spelling name ≡ text
  pub first : (other : ℕ) (earlier : List ℕ) → other < event → slice_get events other ≡ Some earlier → ¬ (spelling earlier ≡ text)

-- the first event that is spelled like the name, if there is one
abbrev pub Spells : List (List ℕ) → List ℕ → Option ℕ → Type 0
Spells events name (Some event) = IsFirstSpelled events (spelling name) event
Spells events name None = (event : ℕ) (other : List ℕ) → slice_get events event ≡ Some other → ¬ (spelling other ≡ spelling name)

-- the row of a map begins with the activity, and with a name that is spelled like the event
pub record Says (events : List (List ℕ)) (row : List (List ℕ)) (activity : List ℕ) (event : ℕ) : Type 0 where
  pub name : List ℕ
  pub of_activity : field_at row 0 ≡ Some activity
  pub by_name : field_at row 1 ≡ Some name
  pub spells : Spells events name (Some event)

-- of the rows that say something of the activity the first one says this event
pub record IsMapped (events : List (List ℕ)) (rows : List (List (List ℕ))) (activity : List ℕ) (event : ℕ) : Type 0 where
  pub place : ℕ
  pub row : List (List ℕ)
  pub there : slice_get rows place ≡ Some row
  pub says : Says events row activity event
  pub first : (earlier other : ℕ) (row : List (List ℕ)) → earlier < place → slice_get rows earlier ≡ Some row → ¬ (Says events row activity other)

-- the event that the rows of a map give the activity, if they give one
abbrev pub Maps : List (List ℕ) → List (List (List ℕ)) → List ℕ → Option ℕ → Type 0
Maps events rows activity (Some event) = IsMapped events rows activity event
Maps events rows activity None = (place event : ℕ) (row : List (List ℕ)) → slice_get rows place ≡ Some row → ¬ (Says events row activity event)

-- an activity of that number that the map does not have: the event that is spelled like it, else a number of its own behind all events
pub record StandsByName (events : List (List ℕ)) (number : ℕ) (activity : List ℕ) (event : ℕ) : Type 0 where
  pub spelled : Option ℕ
  pub spells : Spells events activity spelled
  pub is : event ≡ unwrap_or spelled (length events + number)

abbrev pub StandsBy : List (List ℕ) → ℕ → List ℕ → ℕ → Option ℕ → Type 0
StandsBy events number activity event (Some mapped) = event ≡ mapped
StandsBy events number activity event None = StandsByName events number activity event

-- the activity of that number stands for the event that the map gives it, else by its name
pub record StandsFor (events : List (List ℕ)) (rows : List (List (List ℕ))) (number : ℕ) (activity : List ℕ) (event : ℕ) : Type 0 where
  pub mapped : Option ℕ
  pub maps : Maps events rows activity mapped
  pub stands : StandsBy events number activity event mapped

-- each of the activities, by their numbers
pub record StandFor (events : List (List ℕ)) (rows : List (List (List ℕ))) (activities : List (List ℕ)) (numbers : List ℕ) : Type 0 where
  pub one_each : length numbers ≡ length activities
  pub each : (k event : ℕ) (activity : List ℕ) → slice_get activities k ≡ Some activity → slice_get numbers k ≡ Some event →
      StandsFor events rows k activity event
