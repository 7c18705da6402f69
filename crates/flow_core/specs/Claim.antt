-- A claim that was given, as the code of a core reads it.
use Rattle.std.specs.Prelude.{◌≡◌, ◌≤◌, ℕ, Some, Result, Ok, Err}
use Rattle.flow_model.specs.Facts.{event_at}
use Rattle.flow_model.specs.Run.{claim_at, IsCurrent}
use Rattle.flow_model.specs.Takers.{takings_of, taking_of}
use Rattle.flow_model.specs.Verdict.{attempts}
use Rattle.flow_residual.specs.declared.given.Given.{Given}
use Rattle.flow_residual.specs.Given.{claim_of}
use Rattle.flow_core.specs.declared.refusal.PostRefusal.{PostRefusal}
use Rattle.flow_core.specs.Run.{Run, schema, now, IsUncommitted, HasEntryLeft}
use Rattle.flow_core.specs.Answers.{PostIsRefused}

-- the claim of that number, its event, which attempt at it the claim is, and its taker
pub record IsGiven (r : Run) (number : ℕ) (given : Given) : Type 0 where
  pub claim : claim_at (now r) number ≡ Some (claim_of number given)
  pub epoch : given.epoch ≤ (now r).epoch
  pub event : event_at (schema r).labels given.leaf ≡ Some given.event
  pub attempt : given.attempt ≡ attempts (schema r) (now r) given.event number
  pub taking : taking_of (takings_of r.history).given number ≡ Some (record { claim = number; leaf = given.leaf; taker = given.by })

-- a result may be posted for the claim, or it is refused
abbrev pub IsStanding : Run → ℕ → ℕ → Result Given PostRefusal → Run → Type 0
IsStanding r claim by (Err refusal) after = PostIsRefused r claim by refusal after
IsStanding r claim by (Ok given) after = IsUncommitted r × HasEntryLeft r × IsCurrent (now r) claim × IsGiven r claim given × (after ≡ r)
