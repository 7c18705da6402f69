-- Constraints that say nothing more than the others, and those that name an event of no leaf.
use Rattle.std.specs.Prelude.{◌≡◌, ◌<◌, ◌↔◌, ℕ, Bool, true, not, List, length, Some, slice_get, slice_index_or}
use Rattle.std.specs.List.{list_any}
use Rattle.flow_model.specs.declared.labels.Label.{Label}
use Rattle.flow_model.specs.Lists.{◌∈◌}
use Rattle.flow_model.specs.Constraint.{Constraint, Always}
use Rattle.flow_model.specs.Folding.{named_events}
use Rattle.flow_model.specs.Schema.{Schema, IsGood}
use Rattle.flow_plan.specs.Compilation.{IsWithinLimits}
use Rattle.flow_verify.specs.Verification.{against, without}
use Rattle.flow_lint.specs.Events.{IsUnused, is_used}
use Rattle.flow_lint.specs.declared.constraints.Standing.{Standing}
use Rattle.flow_lint.specs.declared.constraints.Standing.TheVariants as standing
use Rattle.flow_lint.specs.declared.constraints.Standings.{Standings}

-- the constraint of that number
abbrev pub constraint_at : Schema → ℕ → Constraint
constraint_at w number = slice_index_or w.rules number Always

-- whether it follows from the others is seen within the limits
abbrev pub CanBeSeen : Schema → ℕ → Type 0
CanBeSeen w number = IsWithinLimits (against (without w number) (constraint_at w number))

-- each trace that meets the others meets it
abbrev pub Follows : Schema → ℕ → Type 0
Follows w number = (t : List ℕ) → IsGood (without w number) t → IsGood w t

-- it follows from the others, as is seen within the limits
abbrev pub IsRedundant : Schema → ℕ → Type 0
IsRedundant w number = CanBeSeen w number × Follows w number

-- what is told of it
abbrev pub TellsStanding : Schema → ℕ → Standing → Type 0
TellsStanding w number standing.Follows = CanBeSeen w number × Follows w number
TellsStanding w number standing.Needed = CanBeSeen w number × ¬ (Follows w number)
TellsStanding w number standing.Unknown = ¬ (CanBeSeen w number)

-- there are so many marks, and just the numbers are marked that have P
pub record AreMarks (P : ℕ → Type 0) (count : ℕ) (marks : List Bool) : Type 0 where
  pub as_many : length marks ≡ count
  pub exact : (number : ℕ) → number < count → (slice_get marks number ≡ Some true) ↔ P number

-- each constraint has a mark where it follows from the others, and one where that cannot be seen
pub record AreStandings (w : Schema) (told : Standings) : Type 0 where
  pub follows : AreMarks (IsRedundant w) (length w.rules) told.follows.items
  pub unknown : AreMarks (λ number. ¬ (CanBeSeen w number)) (length w.rules) told.unknown.items

-- it names an event that no leaf has
abbrev pub NamesUnused : List Label → Constraint → Type 0
NamesUnused labels rule = (event : ℕ) × (event ∈ named_events rule) × IsUnused labels event

-- the constraint of that number does
abbrev pub IsIdleOf : List Label → List Constraint → ℕ → Type 0
IsIdleOf labels rules number = NamesUnused labels (slice_index_or rules number Always)

abbrev pub IsIdle : Schema → ℕ → Type 0
IsIdle w number = IsIdleOf w.labels w.rules number

-- one of the events is that of no leaf
abbrev pub has_unused : List Label → List ℕ → Bool
has_unused labels events = list_any (λ event. not (is_used labels event)) events
