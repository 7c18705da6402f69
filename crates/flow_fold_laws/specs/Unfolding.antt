-- Options whose choices are folded, and their unfoldings: one side is taken at each choice that is left.
use Rattle.std.specs.Prelude.{◌≡◌, ◌≢◌, ℕ, Bool, List, ◌↔◌}
use Rattle.flow_model.specs.Lists.{◌∈◌, Each, AreDistinct, AreInOrder}
use Rattle.flow_model.specs.Process.{Process, leaves}
use Rattle.flow_model.specs.Trace.{Trace}
use Rattle.flow_model.specs.Facts.{events_of}
use Rattle.flow_model.specs.Constraint.{Constraint, Meets, all_of}
use Rattle.flow_model.specs.Ways.{ways_of}
use Rattle.flow_model.specs.Schema.{Schema, IsGood}
use Rattle.flow_model.specs.Resolution.{ChoiceOption, OptionTrace, options}
use Rattle.flow_model.specs.Folding.{named_events, folded_resolutions, IsFolded, fixed_leaves, folded_options_by, KeepsNamedApart, IsUnfolding}
use Rattle.flow_laws.specs.WellFormed.{IsWellFormed}

-- what every folded resolution and way of a workflow has: each choice that is left is foldable, no leaf stands twice, and
-- each pair is of two different leaves outside choices
pub record IsFoldedOrdered (q : Process) (pairs : List (ℕ × ℕ)) : Type 0 where
  pub folded : IsFolded q
  pub distinct : AreDistinct (leaves q)
  pub of_fixed : Each (λ pair. (pair.0 ∈ fixed_leaves q) × (pair.1 ∈ fixed_leaves q)) pairs
  pub different : Each (λ pair. pair.0 ≢ pair.1) pairs

-- each option is an unfolding of just one folded option, and each unfolding is an option
abbrev pub OptionsAreUnfoldings : Type 0
OptionsAreUnfoldings = (apart : ℕ → Bool) (w : Schema) → IsWellFormed w → KeepsNamedApart apart w → (u : ChoiceOption) →
    (u ∈ options w) ↔ ((o : ChoiceOption) × (o ∈ folded_options_by apart w) × IsUnfolding o u)

abbrev pub UnfoldingsAreOfOne : Type 0
UnfoldingsAreOfOne = (apart : ℕ → Bool) (w : Schema) → IsWellFormed w → KeepsNamedApart apart w → (o p u : ChoiceOption) →
    o ∈ folded_options_by apart w → p ∈ folded_options_by apart w → IsUnfolding o u → IsUnfolding p u → o ≡ p

abbrev pub FoldedOptionsAreOrdered : Type 0
FoldedOptionsAreOrdered = (apart : ℕ → Bool) (w : Schema) → IsWellFormed w → (o : ChoiceOption) → o ∈ folded_options_by apart w →
    IsFoldedOrdered o.resolution o.order

-- the executions of an option are those of its unfoldings
abbrev pub TracesUnfold : Type 0
TracesUnfold = (o : ChoiceOption) (t : List ℕ) → OptionTrace o t ↔ ((u : ChoiceOption) × IsUnfolding o u × OptionTrace u t)

-- a constraint that names no other events is met by an execution of a folded resolution exactly where one of its ways over
-- the leaves outside choices stands in order there
abbrev pub FoldedWaysDecideConstraints : Type 0
FoldedWaysDecideConstraints = (apart : ℕ → Bool) (w : Schema) → IsWellFormed w → KeepsNamedApart apart w → (c : Constraint) →
    ((e : ℕ) → e ∈ named_events c → e ∈ named_events (all_of w.rules)) →
    (q : Process) → q ∈ folded_resolutions apart w.goal → (t : List ℕ) → Trace q t →
    Meets c (events_of w.labels t) ↔ ((way : List (ℕ × ℕ)) × (way ∈ ways_of c w.labels (fixed_leaves q)) × AreInOrder way t)

abbrev pub FoldedOptionsCoverGoodTraces : Type 0
FoldedOptionsCoverGoodTraces = (apart : ℕ → Bool) (w : Schema) → IsWellFormed w → KeepsNamedApart apart w → (t : List ℕ) →
    IsGood w t ↔ ((o : ChoiceOption) × (o ∈ folded_options_by apart w) × OptionTrace o t)
