-- Why a workflow is not compiled, as the callers see it.
use Rattle.std.specs.Prelude.{◌≡◌, ◌<◌, ◌≤◌, List, length, map}
use Rattle.flow_model.specs.declared.limits.TheConstants.{GREATEST_BULK, MOST_OPTIONS, MOST_RESOLUTIONS}
use Rattle.flow_model.specs.Schema.{Schema}
use Rattle.flow_model.specs.Constraint.{Constraint, all_of}
use Rattle.flow_model.specs.Folding.{folded_bulk, folded_count, folded_options, folded_options_in, folded_resolutions, is_named, named_events}
use Rattle.flow_laws.specs.WellFormed.{IsConsistent}
use Rattle.flow_goal.specs.Capped.{capped}
use Rattle.flow_goal.specs.Folds.{AreFoldsOf}
use Rattle.flow_goal.specs.Labelled.{Labelled}
use Rattle.flow_rules.specs.Conjunction.{HasWaysOf, normal_in}
use Rattle.flow_rules.specs.declared.conjunction.Conjunction.{Conjunction}
use Rattle.flow_excise.specs.declared.folded_choices.FoldedChoices.{FoldedChoices}
use Rattle.flow_excise.specs.declared.refusal.CompileRefusal.{CompileRefusal}
use Rattle.flow_excise.specs.declared.refusal.CompileRefusal.TheVariants.{TooManyChoices, TooManyWays, TooBulky, Inconsistent, NoMemory}
use Rattle.flow_plan.specs.Compilation.{IsWithinLimits}
use Rattle.flow_excise.specs.Executions.{NumberedOption, numbered_options, TellOfAll}

-- each option with the number of its resolution and that of its way
abbrev pub all_numbered : Schema → List NumberedOption
all_numbered w = numbered_options 0 (map (folded_options_in w) (folded_resolutions (is_named w) w.goal))

-- the constraints have the ways of the rules, and the choices stay that hold no leaf of an event that they name
pub record AreMadeOf (t : Labelled) (choices : FoldedChoices) (rules : Conjunction) (these : List Constraint) : Type 0 where
  pub ways : HasWaysOf (normal_in rules) (all_of these)
  pub folds : AreFoldsOf t (named_events (all_of these)) choices.folds

-- why the workflow is not compiled; of want of memory nothing is said
abbrev pub IsRefused : Schema → CompileRefusal → Type 0
IsRefused w (TooManyChoices count) = (MOST_RESOLUTIONS < folded_count (is_named w) w.goal) × (count ≡ capped (folded_count (is_named w) w.goal))
IsRefused w (TooManyWays count) = (folded_count (is_named w) w.goal ≤ MOST_RESOLUTIONS) × ((MOST_OPTIONS < length (folded_options w)) × (count ≡ capped (length (folded_options w))))
IsRefused w (TooBulky count) =
    (folded_count (is_named w) w.goal ≤ MOST_RESOLUTIONS) × ((length (folded_options w) ≤ MOST_OPTIONS) × ((GREATEST_BULK < folded_bulk w) × (count ≡ capped (folded_bulk w))))
IsRefused w (Inconsistent dropped) = IsWithinLimits w × (¬ (IsConsistent w) × TellOfAll (all_numbered w) dropped.items)
IsRefused w NoMemory = Unit {0}
