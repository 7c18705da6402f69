-- What folding keeps of a workflow of which only this is asked, that its leaves are numbered from
-- the left with one label each: an execution may hold an event twice.
use Rattle.std.specs.Prelude.{ℕ, Bool, IsTrue, List, [], ◌∷◌, ◌++◌, length, ◌≡◌, ◌↔◌}
use Rattle.flow_model.specs.Lists.{◌∈◌, IsOrderOf}
use Rattle.flow_model.specs.Process.{IsNumbered}
use Rattle.flow_model.specs.Schema.{Schema}
use Rattle.flow_model.specs.Resolution.{ChoiceOption, options}
use Rattle.flow_model.specs.Folding.{folded_options_by, KeepsNamedApart, IsUnfolding}
use Rattle.flow_model.specs.FoldedRun.{FoldedCanTake, FoldedCanDoAside}
use Rattle.flow_model.specs.Run.{Claim, RunState, is_current, MayFollow, CanTake, CanDoAside}
use Rattle.flow_laws.specs.Spared.{IsSpared}
use Rattle.flow_fold_laws.specs.Unfolding.{IsFoldedOrdered}
use Rattle.flow_run_laws.specs.FoldedHistories.{MayAllFollowInFolded}

-- its leaves are numbered from the left, with one label each
abbrev pub IsLabelled : Schema → Type 0
IsLabelled w = IsNumbered w.goal (length w.labels)

-- the options are the unfoldings of the folded options
abbrev pub AllOptionsAreUnfoldings : Type 0
AllOptionsAreUnfoldings = (apart : ℕ → Bool) (w : Schema) → KeepsNamedApart apart w → (u : ChoiceOption) →
    (u ∈ options w) ↔ ((o : ChoiceOption) × (o ∈ folded_options_by apart w) × IsUnfolding o u)

-- each is an unfolding of just one
abbrev pub AllUnfoldingsAreOfOne : Type 0
AllUnfoldingsAreOfOne = (apart : ℕ → Bool) (w : Schema) → IsLabelled w → (o p u : ChoiceOption) →
    o ∈ folded_options_by apart w → p ∈ folded_options_by apart w → IsUnfolding o u → IsUnfolding p u → o ≡ p

-- each folded option has what the laws of ready runs, executions and circles of folded options ask
abbrev pub AllFoldedOptionsAreOrdered : Type 0
AllFoldedOptionsAreOrdered = (apart : ℕ → Bool) (w : Schema) → IsLabelled w → (o : ChoiceOption) → o ∈ folded_options_by apart w →
    IsFoldedOrdered o.resolution o.order

-- in some one folded option the leaves may follow in every order, after those that come first,
-- exactly where they may in some one option
abbrev pub AllOrdersUnfold : Type 0
AllOrdersUnfold = (apart : ℕ → Bool) (w : Schema) → IsLabelled w → KeepsNamedApart apart w → (s : RunState) (first list : List ℕ) →
    ((o : ChoiceOption) × (o ∈ folded_options_by apart w) × ((order : List ℕ) → IsOrderOf order list → MayFollow w s o (first ++ order)))
    ↔ ((u : ChoiceOption) × (u ∈ options w) × ((order : List ℕ) → IsOrderOf order list → MayFollow w s u (first ++ order)))

-- so the same leaves can be taken and, state aside, done, and the same claims are spared
abbrev pub AllTakenAlike : Type 0
AllTakenAlike = (w : Schema) → IsLabelled w → (s : RunState) (n : ℕ) → FoldedCanTake w s n ↔ CanTake w s n

abbrev pub AllDoneAlike : Type 0
AllDoneAlike = (w : Schema) → IsLabelled w → (s : RunState) (n : ℕ) → FoldedCanDoAside w s n ↔ CanDoAside w s n

abbrev pub AllSparedAlike : Type 0
AllSparedAlike = (apart : ℕ → Bool) (w : Schema) → IsLabelled w → KeepsNamedApart apart w → (s : RunState) (before : List ℕ) (claim : Claim) →
    IsSpared w s before claim ↔ (IsTrue (is_current s claim) × MayAllFollowInFolded apart w s (before ++ claim.leaf ∷ []))
