-- Why an entry of an old history has no place in a new case.
use Rattle.std.specs.Prelude.{◌≡◌, ◌<◌, ℕ, List, take, Some, slice_get}
use Rattle.flow_model.specs.declared.history.Entry.{Entry}
use Rattle.flow_model.specs.declared.history.Step.{Step}
use Rattle.flow_model.specs.declared.history.Step.TheVariants.{Took, Rewound, Committed}
use Rattle.flow_core.specs.Run.{Run}
use Rattle.flow_core.specs.Make.{CanMake}
use Rattle.flow_core.specs.Holding.{IsTakeable}
use Rattle.flow_case.specs.declared.case_run.CaseRun.{CaseRun}
use Rattle.flow_case.specs.CaseRun.{run_of, case_with}
use Rattle.flow_move.specs.declared.new_names.NewNames.{NewNames}
use Rattle.flow_move.specs.declared.unmoved.Cause.{Cause}
use Rattle.flow_move.specs.declared.unmoved.Cause.TheVariants.{NoUser, NoName, NotNow, Forbidden}
use Rattle.flow_move.specs.Moves.{IsCaller, on_leaf, IsStepAs, definition_of, MayMove, AreMoved}

-- the run could make the step, of which duties or rules have a say: a claim, a step back, the end
abbrev pub IsLetByRun : Run → Step → Type 0
IsLetByRun r (Took claim leaf) = IsTakeable r leaf
IsLetByRun r (Rewound index) = CanMake r (Rewound index)
IsLetByRun r Committed = CanMake r Committed
IsLetByRun r other = ⊥

-- it is the old step by names, and the run could make it
abbrev pub IsLetAs : NewNames → CaseRun → Step → Step → Type 0
IsLetAs names c old step = IsStepAs names (definition_of c) old step × IsLetByRun (run_of c) step

abbrev pub IsCause : NewNames → CaseRun → Entry → Cause → Type 0
IsCause names c old NoUser = (by : ℕ) → ¬ (IsCaller names old.by by)
IsCause names c old NoName = ((by : ℕ) × IsCaller names old.by by) × ((step : Step) → ¬ (IsStepAs names (definition_of c) old.step step))
IsCause names c old NotNow = ((by : ℕ) × IsCaller names old.by by)
    × ((step : Step) × IsStepAs names (definition_of c) old.step step) × ((step : Step) → ¬ (IsLetAs names c old.step step))
IsCause names c old Forbidden = ((by : ℕ) × IsCaller names old.by by) × ((step : Step) × IsLetAs names c old.step step)

-- no such entry may come next, and that is why
pub record IsUnmoved (names : NewNames) (c : CaseRun) (old : Entry) (cause : Cause) : Type 0 where
  pub none : (new : Entry) → ¬ (MayMove names c old new)
  pub why : IsCause names c old cause

-- The entries in front of the place are made, and that at the place is the first that has none; the case is this afterwards.
pub record StopsAt (names : NewNames) (c : CaseRun) (history : List Entry) (place : ℕ) (cause : Cause) (after : CaseRun) : Type 0 where
  pub made : List Entry
  pub moved : AreMoved names c (take place history) made
  pub case : after ≡ case_with c made
  pub entry : Entry
  pub there : slice_get history place ≡ Some entry
  pub unmoved : IsUnmoved names after entry cause

-- ---- as it is found, label by label

-- why the step is not made on a leaf of that label, among the first so many
abbrev pub IsCauseOn : Run → List (List ℕ) → List ℕ → Step → ℕ → Cause → Type 0
IsCauseOn r labels label step count NoUser = ⊥
IsCauseOn r labels label step count NoName = (leaf : ℕ) → leaf < count → ¬ (slice_get labels leaf ≡ Some label)
IsCauseOn r labels label step count NotNow = ((leaf : ℕ) × (slice_get labels leaf ≡ Some label))
    × ((leaf : ℕ) → leaf < count → slice_get labels leaf ≡ Some label → ¬ (IsLetByRun r (on_leaf step leaf)))
IsCauseOn r labels label step count Forbidden = (leaf : ℕ) × (slice_get labels leaf ≡ Some label) × IsLetByRun r (on_leaf step leaf)

-- why a step with no leaf is not made
abbrev pub IsCauseOf : Run → Step → Cause → Type 0
IsCauseOf r step NotNow = ¬ (IsLetByRun r step)
IsCauseOf r step Forbidden = IsLetByRun r step
IsCauseOf r step other = ⊥
