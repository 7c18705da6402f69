-- How many leaves have an event.
use Rattle.std.specs.Prelude.{◌≡◌, ◌<◌, ◌+◌, ℕ, List, Option, Some, None, ◌⊎◌, length, slice_index_or}
use Rattle.flow_model.specs.Facts.{event_at}
use Rattle.flow_goal.specs.Labelled.{Labelled}
use Rattle.flow_goal.specs.declared.times.Times.{Times}
use Rattle.flow_goal.specs.declared.times.Times.TheVariants.{Never, Once, Again}

abbrev pub more : Times → Times
more Never = Once
more Once = Again
more Again = Again

abbrev pub repeated : Times → ℕ → Option ℕ
repeated Never event = None
repeated Once event = Some event
repeated Again event = None

-- two leaves before that place have the event
abbrev pub StandsAgain : Labelled → ℕ → ℕ → Type 0
StandsAgain t stop event = (x y : ℕ) × (x < y) × (y < stop) × (event_at t.labels x ≡ Some event) × (event_at t.labels y ≡ Some event)

-- so many leaves before that place have it
abbrev pub Stands : Labelled → ℕ → ℕ → Times → Type 0
Stands t stop event Never = (x : ℕ) → x < stop → ¬ (event_at t.labels x ≡ Some event)
Stands t stop event Once =
    (x : ℕ) × (x < stop) × (event_at t.labels x ≡ Some event) × ((y : ℕ) → y < stop → event_at t.labels y ≡ Some event → y ≡ x)
Stands t stop event Again = StandsAgain t stop event

-- with the leaf no other event has two leaves than before it
abbrev pub IsRepeated : Labelled → ℕ → Option ℕ → Type 0
IsRepeated t leaf found = (event : ℕ) → StandsAgain t (leaf + 1) event → StandsAgain t leaf event ⊎ (found ≡ Some event)

-- each event has its times in the table
pub record AreTimes (t : Labelled) (stop : ℕ) (table : List Times) : Type 0 where
  pub room : (leaf event : ℕ) → event_at t.labels leaf ≡ Some event → event < length table
  pub stand : (event : ℕ) → Stands t stop event (slice_index_or table event Never)
