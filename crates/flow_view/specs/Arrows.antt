-- The arrows that constraints give.
use Rattle.std.specs.Prelude.{◌+◌, ℕ, List, [], ◌∷◌, ◌++◌, length, filter}
use Rattle.std.specs.List.{flat_map}
use Rattle.flow_model.specs.declared.labels.Label.{Label}
use Rattle.flow_model.specs.Constraint.{Constraint, Order, And, Or}
use Rattle.flow_model.specs.Facts.{event_at, is_event}
use Rattle.flow_model.specs.Lists.{each_with_each, numbers_from}
use Rattle.flow_workflow.specs.Definition.{Definition}
use Rattle.flow_view.specs.declared.arrow.Arrow.{Arrow}

-- two events that follow one another in an order
abbrev pub followers : List ℕ → List (ℕ × ℕ)
followers [] = []
followers (a ∷ []) = []
followers (a ∷ b ∷ more) = (a, b) ∷ followers (b ∷ more)

-- those in the orders that are written under no `not`
abbrev pub ordered : Constraint → List (ℕ × ℕ)
ordered (Order es) = followers es
ordered (And c d) = ordered c ++ ordered d
ordered (Or c d) = ordered c ++ ordered d
ordered _ = []

-- the leaves of an event, in order
abbrev pub leaves_of : List Label → ℕ → List ℕ
leaves_of labels e = filter (λ n. is_event e (event_at labels n)) (numbers_from 0 (length labels))

abbrev pub arrow : ℕ → ℕ → ℕ → Arrow
arrow number x y = record { rule = number; from = x; to = y }

-- from each leaf of the first event to each of the second
abbrev pub arrows_between : List Label → ℕ → ℕ × ℕ → List Arrow
arrows_between labels number pair = each_with_each (arrow number) (leaves_of labels pair.0) (leaves_of labels pair.1)

-- those of constraints, numbered from the first
abbrev pub arrows_from : List Label → ℕ → List Constraint → List Arrow
arrows_from labels number [] = []
arrows_from labels number (c ∷ cs) = flat_map (arrows_between labels number) (ordered c) ++ arrows_from labels (number + 1) cs

-- those of a workflow
abbrev pub arrows_of : Definition → List Arrow
arrows_of w = arrows_from w.tree.labels 0 w.rules
