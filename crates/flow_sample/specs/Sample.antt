-- Whether a plan has an execution, and why it is not kept.
use Rattle.std.specs.Prelude.{ℕ, List}
use Rattle.flow_model.specs.Process.{Process}
use Rattle.flow_model.specs.FoldedCircle.{IsFoldedCircle}
use Rattle.flow_model.specs.Resolution.{ChoiceOption}
use Rattle.flow_goal.specs.LeftSides.{left_sides}
use Rattle.flow_plan.specs.Options.{HasExecution}
use Rattle.flow_plan.specs.Planned.{Planned, pairs_of}
use Rattle.flow_sample.specs.declared.sample.ExciseRefusal.{ExciseRefusal}
use Rattle.flow_sample.specs.declared.sample.ExciseRefusal.TheVariants.{Circle, NoMemory}

-- the option has no execution, and that is a circle of it; or nothing is said of it
abbrev pub IsReasonAgainst : ChoiceOption → ExciseRefusal → Type 0
IsReasonAgainst o (Circle circle) = ¬ (HasExecution o) × IsFoldedCircle o.resolution o.order circle.leaves.items
IsReasonAgainst o NoMemory = Unit {0}

-- a circle of the option outside its choices; or nothing is said
abbrev pub TellsFoldedCircle : Process → List (ℕ × ℕ) → ExciseRefusal → Type 0
TellsFoldedCircle q pairs (Circle circle) = IsFoldedCircle q pairs circle.leaves.items
TellsFoldedCircle q pairs NoMemory = Unit {0}

-- the option of a plan with the left side taken at each choice
abbrev pub left_option : Planned → ChoiceOption
left_option p = record { resolution = left_sides p.process; order = pairs_of p.tokens }
