-- Where cases come to in a tree of sequences, and where these stand in a list.
use Rattle.std.specs.Prelude.{◌≡◌, ◌<◌, ◌≤◌, ◌+◌, ℕ, List, Some, length, reverse, slice_get, slice_index}
use Rattle.std.proofs.Common.{Vec, Global}
use Rattle.flow_event_log.specs.declared.sequences.Step.{Step}
use Rattle.flow_event_log.specs.Reached.{IsReached}
use Rattle.flow_event_log.specs.Grouped.{events_of_case}

-- each case comes to the sequence of its events
pub record AreEnds (cases : ℕ) (entries : List (ℕ × ℕ)) (steps : List Step) (ends : List ℕ) : Type 0 where
  pub one_each : length ends ≡ cases
  pub known : (case : ℕ) → case < cases → slice_index ends case ≤ length steps
  pub reached : (case : ℕ) → case < cases → IsReached steps (slice_index ends case) (reverse (events_of_case case entries))

-- at that place stand the events of the sequence of that number
pub record StandsAt (steps : List Step) (sequences : List (Vec ℕ Global)) (number place : ℕ) : Type 0 where
  pub events : Vec ℕ Global
  pub stands : slice_get sequences place ≡ Some events
  pub are : (latest_first : List ℕ) → IsReached steps number latest_first → events.items ≡ reverse latest_first

-- of each sequence its place plus one, or 0 where it stands nowhere yet
pub record ArePlaced (steps : List Step) (places : List ℕ) (sequences : List (Vec ℕ Global)) : Type 0 where
  pub wide : length places ≡ length steps + 1
  pub placed : (number place : ℕ) → slice_index places number ≡ place + 1 → StandsAt steps sequences number place

-- each of the first so many numbers has a place
pub record HavePlaces (steps : List Step) (ends : List ℕ) (sequences : List (Vec ℕ Global)) (count : ℕ) (of_ends : List ℕ) : Type 0 where
  pub one_each : length of_ends ≡ count
  pub each : (k : ℕ) → k < count → StandsAt steps sequences (slice_index ends k) (slice_index of_ends k)
