-- Why a leaf of a run is not taken or done now: the first reason that holds.
use Rattle.std.specs.Prelude.{◌<◌, ◌≤◌, ℕ, length}
use Rattle.flow_model.specs.Lists.{◌∈◌}
use Rattle.flow_model.specs.Run.{current_leaves, CanDoAside}
use Rattle.flow_plan.specs.Compilation.{IsWithinLimits}
use Rattle.flow_core.specs.Run.{Run, schema, now, IsUncommitted}
use Rattle.flow_core.specs.Answers.{IsOver}
use Rattle.flow_core.specs.Next.{CanStep, CanAct}
use Rattle.flow_reason.specs.declared.reason.Reason.{Reason}
use Rattle.flow_reason.specs.declared.reason.Reason.TheVariants.{NoLeaf, Free, Over, Done, Out, False, OtherSide, GivenUp, Waits, Isolated, WaitsByConstraints, Claims, Barred, Other}
use Rattle.flow_reason.specs.DoneBy.{IsDoneBy}
use Rattle.flow_reason.specs.Claimed.{IsOutBy}
use Rattle.flow_reason.specs.Facts.{IsFalseNow}
use Rattle.flow_reason.specs.Waiting as waiting
use Rattle.flow_reason.specs.InTheWay.{AreInTheWay, IsBarred}
use Rattle.flow_reason.specs.GivenUp.{IsGivenUp, IsNotGivenUp}
use Rattle.flow_reason.specs.Isolated.{IsIsolated}

-- the leaf is one of the goal, the run goes on, and it can neither be taken nor done now
pub record IsBlocked (r : Run) (leaf : ℕ) : Type 0 where
  pub within : leaf < length (schema r).labels
  pub going : IsUncommitted r
  pub no_step : ¬ (CanStep r leaf)

-- besides, it is neither done nor under a claim
pub record IsIdle (r : Run) (leaf : ℕ) : Type 0 where
  pub blocked : IsBlocked r leaf
  pub undone : ¬ (leaf ∈ (now r).journal)
  pub unclaimed : ¬ (leaf ∈ current_leaves (now r))

-- besides, whatever facts hold it can neither be taken nor done
pub record IsHeld (r : Run) (leaf : ℕ) : Type 0 where
  pub idle : IsIdle r leaf
  pub not_aside : ¬ (CanDoAside (schema r) (now r) leaf)

-- besides, it was not given up
pub record IsKept (r : Run) (leaf : ℕ) : Type 0 where
  pub held : IsHeld r leaf
  pub not_given_up : IsNotGivenUp r leaf

-- the reason is so, and none before it that is known
abbrev pub IsReason : Run → ℕ → Reason → Type 0
IsReason r leaf NoLeaf = length (schema r).labels ≤ leaf
IsReason r leaf Over = (leaf < length (schema r).labels) × IsOver r
IsReason r leaf Free = (leaf < length (schema r).labels) × CanAct r leaf
IsReason r leaf (Done entry) = IsBlocked r leaf × IsDoneBy (schema r) r.history leaf entry
IsReason r leaf (Out claim entry user) = IsBlocked r leaf × ¬ (leaf ∈ (now r).journal) × IsOutBy r leaf claim entry user
IsReason r leaf (False fact wanted leaves) = IsIdle r leaf × IsFalseNow r leaf fact wanted leaves.items
IsReason r leaf (OtherSide other) = IsHeld r leaf × waiting.IsOtherSide r leaf other
IsReason r leaf GivenUp = IsHeld r leaf × IsGivenUp r leaf
IsReason r leaf (Waits leaves) = IsKept r leaf × waiting.WaitsByGoal r leaf leaves.items
IsReason r leaf (Isolated leaves) = IsKept r leaf × IsIsolated r leaf leaves.items
IsReason r leaf (WaitsByConstraints constraints undecided) =
    IsKept r leaf × waiting.WaitsByConstraints r leaf constraints.items undecided.items
IsReason r leaf (Claims outs) = IsKept r leaf × AreInTheWay r leaf outs.items
IsReason r leaf Barred = IsKept r leaf × IsBarred r leaf
IsReason r leaf Other = IsKept r leaf × ¬ (IsWithinLimits (schema r))
