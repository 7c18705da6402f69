-- Leaves of a label, as they are looked for.
use Rattle.std.specs.Prelude.{◌≡◌, ℕ, List, Some, slice_get}
use Rattle.flow_model.specs.declared.history.Step.{Step}
use Rattle.flow_model.specs.declared.history.Step.TheVariants.{Took, Did}
use Rattle.flow_case.specs.declared.case_run.CaseRun.{CaseRun}
use Rattle.flow_case.specs.CaseRun.{CanMakeInCase}
use Rattle.flow_move.specs.Moves.{on_leaf}

-- the leaf has the label, and the user's step may come next on it
abbrev pub MayOn : CaseRun → List (List ℕ) → List ℕ → ℕ → Step → ℕ → Type 0
MayOn c labels label by step leaf = (slice_get labels leaf ≡ Some label) × CanMakeInCase c (record { by = by; step = on_leaf step leaf })

-- the step is on a leaf
abbrev pub HasLeaf : Step → Type 0
HasLeaf (Took claim leaf) = Unit {0}
HasLeaf (Did leaf) = Unit {0}
HasLeaf other = ⊥
