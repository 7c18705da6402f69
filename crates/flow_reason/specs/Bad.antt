-- Why a leaf may not come where a journal has it.
use Rattle.std.specs.Prelude.{◌≡◌, ℕ, List, [], Some, slice_get, take}
use Rattle.flow_model.specs.Run.{current_claims}
use Rattle.flow_model.specs.Verdict.{AreJust}
use Rattle.flow_core.specs.Run.{Run, now}
use Rattle.flow_core.specs.Next.{CanAct}
use Rattle.flow_reason.specs.declared.reason.Reason.{Reason}
use Rattle.flow_reason.specs.Reasons.{IsReason}

-- the workflow stays, and where nothing was given up nothing is
pub record GivesNothingUp (r after : Run) : Type 0 where
  pub definition : after.definition ≡ r.definition
  pub bans : (now r).bans ≡ [] → (now after).bans ≡ []

-- nothing was given up, and no claim is out
pub record IsUntouched (r : Run) : Type 0 where
  pub no_bans : (now r).bans ≡ []
  pub no_claims : current_claims (now r) ≡ []

-- The run has made just the leaves before that place of the journal, and has nothing out and nothing given up. The leaf stands at the
-- place, the reason is its reason there, and the others are just those that could come in its place.
pub record IsBadAt (r : Run) (journal : List ℕ) (place leaf : ℕ) (reason : Reason) (instead : List ℕ) : Type 0 where
  pub made : (now r).journal ≡ take place journal
  pub untouched : IsUntouched r
  pub leaf_is : slice_get journal place ≡ Some leaf
  pub reason_is : IsReason r leaf reason
  pub instead_are : AreJust (CanAct r) instead
