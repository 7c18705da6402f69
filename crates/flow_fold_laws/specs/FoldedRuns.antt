-- Ready runs and circles of options whose choices are folded.
use Rattle.std.specs.Prelude.{ℕ, List, ◌⊎◌, ◌↔◌}
use Rattle.flow_model.specs.Lists.{◌∈◌, AreDistinct, AreInOrder, Begins}
use Rattle.flow_model.specs.Process.{Process}
use Rattle.flow_model.specs.Trace.{Trace}
use Rattle.flow_model.specs.Resolution.{ChoiceOption}
use Rattle.flow_model.specs.Ready.{InSequence, IsReadyRun, IsCompleteRun}
use Rattle.flow_model.specs.Folding.{outside_choices, fixed_leaves, IsUnfolding}
use Rattle.flow_model.specs.FoldedReady.{IsFoldedRun, IsCompleteFoldedRun}
use Rattle.flow_model.specs.FoldedCircle.{IsFoldedCircle}
use Rattle.flow_model.specs.Process.{leaves}
use Rattle.flow_fold_laws.specs.Unfolding.{IsFoldedOrdered}

-- the ready runs of an option are those of its unfoldings
abbrev pub FoldedRunsUnfold : Type 0
FoldedRunsUnfold = (o : ChoiceOption) → IsFoldedOrdered o.resolution o.order → (run : List ℕ) →
    IsFoldedRun o.resolution o.order run
    ↔ ((u : ChoiceOption) × IsUnfolding o u × IsReadyRun u.resolution u.order run)

-- so are its complete ones
abbrev pub CompleteRunsUnfold : Type 0
CompleteRunsUnfold = (o : ChoiceOption) → IsFoldedOrdered o.resolution o.order → (run : List ℕ) →
    IsCompleteFoldedRun o.resolution o.order run
    ↔ ((u : ChoiceOption) × IsUnfolding o u × IsCompleteRun u.resolution u.order run)

abbrev pub FoldedCompleteRunsAreTraces : Type 0
FoldedCompleteRunsAreTraces = (q : Process) (pairs : List (ℕ × ℕ)) → IsFoldedOrdered q pairs → (t : List ℕ) →
    IsCompleteFoldedRun q pairs t ↔ (Trace q t × AreInOrder pairs t)

-- a front of an execution is a ready run
abbrev pub FoldedFrontsAreReady : Type 0
FoldedFrontsAreReady = (q : Process) (pairs : List (ℕ × ℕ)) → IsFoldedOrdered q pairs → (t front : List ℕ) →
    Trace q t → AreInOrder pairs t → Begins t front → IsFoldedRun q pairs front

-- where there is an execution, every ready run begins one
abbrev pub FoldedRunsExtend : Type 0
FoldedRunsExtend = (q : Process) (pairs : List (ℕ × ℕ)) → IsFoldedOrdered q pairs →
    ((s : List ℕ) × Trace q s × AreInOrder pairs s) → (run : List ℕ) → IsFoldedRun q pairs run →
    (t : List ℕ) × Trace q t × AreInOrder pairs t × Begins t run

abbrev pub FoldedCirclesExcludeTraces : Type 0
FoldedCirclesExcludeTraces = (q : Process) (pairs : List (ℕ × ℕ)) → IsFoldedOrdered q pairs → (circle : List ℕ) → IsFoldedCircle q pairs circle →
    (t : List ℕ) → Trace q t → ¬ (AreInOrder pairs t)

-- one of the two is found
abbrev pub FoldedTraceOrCircle : Type 0
FoldedTraceOrCircle = (q : Process) (pairs : List (ℕ × ℕ)) → IsFoldedOrdered q pairs →
    ((t : List ℕ) × Trace q t × AreInOrder pairs t) ⊎ ((circle : List ℕ) × IsFoldedCircle q pairs circle)

-- what stands in sequence in the goal without its choices is what stands so in the goal, outside choices
abbrev pub OutsideKeepsSequence : Type 0
OutsideKeepsSequence = (q : Process) → AreDistinct (leaves q) → (x y : ℕ) →
    InSequence (outside_choices q) x y ↔ ((x ∈ fixed_leaves q) × (y ∈ fixed_leaves q) × InSequence q x y)
