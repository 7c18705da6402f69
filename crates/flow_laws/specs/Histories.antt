-- What every legal history keeps, and that it is never at a loss.
use Rattle.std.specs.Prelude.{◌≡◌, ℕ, ◌≤◌, false, List, length, map, ◌⊎◌}
use Rattle.flow_model.specs.declared.history.Entry.{Entry}
use Rattle.flow_model.specs.declared.labels.Label.{Label}
use Rattle.flow_model.specs.declared.labels.Label.TheVariants.{Test, Absent}
use Rattle.flow_model.specs.Lists.{◌∈◌, Each, numbers_from}
use Rattle.flow_model.specs.Facts.{Runs}
use Rattle.flow_model.specs.Schema.{Schema, start_of, IsEventLeaf, IsGood}
use Rattle.flow_model.specs.Run.{Claim, RunState, current_claims, current_leaves, MayAllFollow, CanTake, CanDoAside, IsLegal, IsStuck, state_of}
use Rattle.flow_laws.specs.WellFormed.{IsWellFormed, IsConsistent}

-- what the state of a legal history is
pub record IsSound (w : Schema) (s : RunState) : Type 0 where
  -- the journal runs from what holds at the start
  pub runs : Runs w.labels (start_of w) s.journal
  pub bans : Each (λ ban. ban.0 ≤ length s.journal) s.bans
  pub numbered : map (λ (claim : Claim). claim.number) s.claims ≡ numbers_from 1 (length s.claims)
  pub on_events : Each (λ (claim : Claim). IsEventLeaf w claim.leaf) s.claims
  -- no claim is of an epoch to come
  pub epochs : Each (λ (claim : Claim). claim.epoch ≤ s.epoch) s.claims
  -- in some one option the current claims' leaves may follow the journal in every order
  pub extends : MayAllFollow w s (current_leaves s)

-- a claim is out, or some leaf can be taken or, state aside, done
abbrev pub NeverAtALoss : Type 0
NeverAtALoss = (w : Schema) → IsWellFormed w → IsConsistent w → (limit : ℕ) (history : List Entry) → IsLegal w limit history →
    (state_of w history).committed ≡ false → ¬ (IsGood w (state_of w history).journal) →
    ((claim : Claim) × (claim ∈ current_claims (state_of w history))) ⊎ ((n : ℕ) × (CanTake w (state_of w history) n ⊎ CanDoAside w (state_of w history) n))

-- the label is neither a test nor an absence
abbrev pub NeverWaits : Label → Type 0
NeverWaits (Test f) = ⊥
NeverWaits (Absent f) = ⊥
NeverWaits other = Unit {0}

abbrev pub NeverStuckWithoutTests : Type 0
NeverStuckWithoutTests = (w : Schema) → IsWellFormed w → IsConsistent w → Each NeverWaits w.labels →
    (limit : ℕ) (history : List Entry) → IsLegal w limit history → ¬ (IsStuck w (state_of w history))
