-- Options that are told by their numbers: those that a workflow is refused for, one with a circle
-- each.
use Rattle.std.specs.Prelude.{◌≡◌, ℕ, List, length, map}
use Rattle.flow_model.specs.Lists.{◌∈◌, Each}
use Rattle.flow_model.specs.FoldedCircle.{IsFoldedCircle}
use Rattle.flow_model.specs.Schema.{Schema}
use Rattle.flow_model.specs.Resolution.{ChoiceOption}
use Rattle.flow_model.specs.Folding.{folded_options, folded_resolutions, folded_ways, is_named}
use Rattle.flow_excise.specs.declared.refusal.Dropped.{Dropped}
use Rattle.flow_excise.specs.Executions.{NumberedOption, TellOfAll}
use Rattle.flow_excise.specs.Compilation.{all_numbered}
use Rattle.flow_run_laws.specs.OptionNumbers.{HasNumbers}

-- the folded option of the workflow is of the resolution of number i, and of its way of number j
abbrev pub IsOptionOf : Schema → ChoiceOption → ℕ → ℕ → Type 0
IsOptionOf w o i j = HasNumbers (folded_ways w) (folded_resolutions (is_named w) w.goal) o i j

-- the options with numbers are the folded options in their order, each with its own
abbrev pub NumberedAreTheOptions : Type 0
NumberedAreTheOptions = (w : Schema) →
    (map (λ (n : NumberedOption). n.option) (all_numbered w) ≡ folded_options w)
    × Each (λ (n : NumberedOption). IsOptionOf w n.option n.resolution n.way) (all_numbered w)

-- it tells the option by its numbers, with a circle of it
pub record TellsByNumber (o : ChoiceOption) (i j : ℕ) (d : Dropped) : Type 0 where
  pub resolution : d.resolution ≡ i
  pub way : d.way ≡ j
  pub circle : IsFoldedCircle o.resolution o.order d.circle.leaves.items

-- where all are told, as many are told as there are options; what is told is told of an option, and
-- each option is told, by its numbers
pub record AllAreTold (w : Schema) (dropped : List Dropped) : Type 0 where
  pub count : length dropped ≡ length (folded_options w)
  pub of_some : Each (λ d. (o : ChoiceOption) × IsOptionOf w o d.resolution d.way × TellsByNumber o d.resolution d.way d) dropped
  pub each : (o : ChoiceOption) (i j : ℕ) → IsOptionOf w o i j → (d : Dropped) × (d ∈ dropped) × TellsByNumber o i j d

abbrev pub DroppedAreByNumber : Type 0
DroppedAreByNumber = (w : Schema) (dropped : List Dropped) → TellOfAll (all_numbered w) dropped → AllAreTold w dropped
