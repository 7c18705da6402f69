-- What may be done in a run, by options whose choices are folded.
use Rattle.std.specs.Prelude.{ℕ, List, [], ◌∷◌, ◌++◌, ◌⊎◌}
use Rattle.flow_model.specs.Lists.{◌∈◌, IsOrderOf}
use Rattle.flow_model.specs.Process.{Process, Empty, Task, Sequence, Parallel, Choice, Isolated}
use Rattle.flow_model.specs.Schema.{Schema, IsEventLeaf, IsOtherLeaf}
use Rattle.flow_model.specs.Resolution.{ChoiceOption}
use Rattle.flow_model.specs.Folding.{folded_options}
use Rattle.flow_model.specs.FoldedReady.{IsBegun}
use Rattle.flow_model.specs.Run.{RunState, current_leaves, MayFollow}

-- the leaf is an event's with no claim on it, and in some one folded option it and the current claims' leaves may
-- follow in every order
abbrev pub FoldedCanTake : Schema → RunState → ℕ → Type 0
FoldedCanTake w s n = IsEventLeaf w n × ¬ (n ∈ current_leaves s) ×
    ((o : ChoiceOption) × (o ∈ folded_options w) ×
    ((order : List ℕ) → IsOrderOf order (current_leaves s ++ n ∷ []) → MayFollow w s o order))

-- the leaf is no event's, and in some one folded option it may come first, and the current claims' leaves then in every order
abbrev pub FoldedCanDoAside : Schema → RunState → ℕ → Type 0
FoldedCanDoAside w s n = IsOtherLeaf w n ×
    ((o : ChoiceOption) × (o ∈ folded_options w) ×
    ((order : List ℕ) → IsOrderOf order (current_leaves s) → MayFollow w s o (n ∷ order)))

-- The goal can go on without the banned leaves: each choice has a side that can, and whose other side is not begun.
abbrev pub CanAvoid : Process → (ℕ → Type 0) → (ℕ → Type 0) → Type 0
CanAvoid Empty Begun Banned = Unit {0}
CanAvoid (Task n) Begun Banned = ¬ Banned n
CanAvoid (Sequence a b) Begun Banned = CanAvoid a Begun Banned × CanAvoid b Begun Banned
CanAvoid (Parallel a b) Begun Banned = CanAvoid a Begun Banned × CanAvoid b Begun Banned
CanAvoid (Choice a b) Begun Banned = (CanAvoid a Begun Banned × ¬ (IsBegun b Begun)) ⊎ (CanAvoid b Begun Banned × ¬ (IsBegun a Begun))
CanAvoid (Isolated a) Begun Banned = CanAvoid a Begun Banned
