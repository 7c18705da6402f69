-- Which leaves cases pass: those of the list that is found for their events.
use Rattle.std.specs.Prelude.{◌≡◌, ◌==◌, ℕ, Bool, false, List, [], length, map, count_by, Option, Some, None, slice_get}
use Rattle.std.specs.List.{list_any}
use Rattle.std.proofs.Common.{Vec, Global}
use Rattle.flow_model.specs.Lists.{numbers_from}
use Rattle.flow_workflow.specs.Definition.{Definition}
use Rattle.flow_log.specs.Fits.{TellsOfFit}
use Rattle.flow_log.specs.declared.verdict.Fit.{Fit}
use Rattle.flow_log.specs.declared.verdict.Fit.TheVariants.{Execution, Front, Deviates, Unknown, Undecided}
use Rattle.flow_event_log.specs.declared.grouping.Cases.{Cases}

-- the leaves that a fit shows
abbrev pub leaves_of_fit : Fit → List ℕ
leaves_of_fit (Execution list) = list.items
leaves_of_fit (Front list) = list.items
leaves_of_fit (Deviates at) = []
leaves_of_fit (Unknown at) = []
leaves_of_fit Undecided = []

-- the leaves show how the events fit
abbrev pub IsWay : Definition → ℕ → List ℕ → List ℕ → Type 0
IsWay d budget events way = (told : Fit) × TellsOfFit d events budget told × (way ≡ leaves_of_fit told)

-- of each sequence its leaves
pub record AreWays (d : Definition) (budget : ℕ) (sequences ways : List (Vec ℕ Global)) : Type 0 where
  pub count : length ways ≡ length sequences
  pub each : (i : ℕ) (events way : Vec ℕ Global) → slice_get sequences i ≡ Some events → slice_get ways i ≡ Some way → IsWay d budget events.items way.items

abbrev pub has_leaf : ℕ → Option (Vec ℕ Global) → Bool
has_leaf leaf None = false
has_leaf leaf (Some way) = list_any (λ (other : ℕ). other == leaf) way.items

-- whether the leaf is among those of the sequence of that number
abbrev pub is_on_way : List (Vec ℕ Global) → ℕ → ℕ → Bool
is_on_way ways leaf sequence = has_leaf leaf (slice_get ways sequence)

-- how many cases have the leaf among those of their sequence
abbrev pub passing : List (Vec ℕ Global) → List ℕ → ℕ → ℕ
passing ways of_cases leaf = count_by (is_on_way ways leaf) of_cases

-- of each leaf of the workflow the number of cases that have it among those of their sequence
pub record AreCounts (d : Definition) (budget : ℕ) (cases : Cases) (counts : List ℕ) : Type 0 where
  pub ways : List (Vec ℕ Global)
  pub are : AreWays d budget cases.sequences.items ways
  pub counted : counts ≡ map (passing ways cases.of_cases.items) (numbers_from 0 (length d.tree.labels))
