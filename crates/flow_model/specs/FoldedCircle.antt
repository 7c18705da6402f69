-- Circles of an option whose choices are folded. A circle stands outside the choices.
use Rattle.std.specs.Prelude.{ℕ, List}
use Rattle.flow_model.specs.Process.{Process}
use Rattle.flow_model.specs.Circle.{IsCircle}
use Rattle.flow_model.specs.Folding.{outside_choices}

-- items of one part wait for each other in a ring: it is a circle of the goal with its choices left out
abbrev pub IsFoldedCircle : Process → List (ℕ × ℕ) → List ℕ → Type 0
IsFoldedCircle q pairs circle = IsCircle (outside_choices q) pairs circle
