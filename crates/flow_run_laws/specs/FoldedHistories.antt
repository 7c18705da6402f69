-- What every legal history keeps, and that it is never at a loss, by options whose choices are
-- folded.
use Rattle.std.specs.Prelude.{◌≡◌, ℕ, Bool, false, List, [], ◌⊎◌, ◌↔◌}
use Rattle.flow_model.specs.declared.history.Entry.{Entry}
use Rattle.flow_model.specs.Lists.{◌∈◌, Each, Begins, IsOrderOf}
use Rattle.flow_model.specs.Facts.{HoldsAt}
use Rattle.flow_model.specs.Schema.{Schema, IsGood}
use Rattle.flow_model.specs.Resolution.{ChoiceOption}
use Rattle.flow_model.specs.Folding.{folded_options_by, KeepsNamedApart}
use Rattle.flow_model.specs.FoldedRun.{FoldedCanTake, FoldedCanDoAside}
use Rattle.flow_model.specs.Run.{Claim, RunState, current_claims, current_leaves, database, MayFollow, IsLegal, IsStuck, state_of}
use Rattle.flow_laws.specs.WellFormed.{IsWellFormed, IsConsistent}
use Rattle.flow_laws.specs.Histories.{IsSound, NeverWaits}

-- in some one folded option the leaves may follow in every order
abbrev pub MayAllFollowInFolded : (ℕ → Bool) → Schema → RunState → List ℕ → Type 0
MayAllFollowInFolded apart w s list =
    (o : ChoiceOption) × (o ∈ folded_options_by apart w) × ((order : List ℕ) → IsOrderOf order list → MayFollow w s o order)

-- after each front of a legal history the state is sound, in some one folded option the current
-- claims' leaves may follow the journal in every order, and the journal begins a good trace
abbrev pub LegalStatesExtendInFolded : Type 0
LegalStatesExtendInFolded = (apart : ℕ → Bool) (w : Schema) → IsWellFormed w → IsConsistent w → KeepsNamedApart apart w →
    (limit : ℕ) (history : List Entry) → IsLegal w limit history → (front : List Entry) → Begins history front →
    IsSound w (state_of w front) × MayAllFollowInFolded apart w (state_of w front) (current_leaves (state_of w front))
    × ((t : List ℕ) × IsGood w t × Begins t (state_of w front).journal)

-- by folded options, some leaf can be taken or, state aside, done
abbrev pub CanGoOnInFolded : Schema → RunState → ℕ → Type 0
CanGoOnInFolded w s n = FoldedCanTake w s n ⊎ FoldedCanDoAside w s n

-- a claim is out, or some leaf can be taken or, state aside, done
abbrev pub GoesOnInFolded : Type 0
GoesOnInFolded = (w : Schema) → IsWellFormed w → IsConsistent w → (limit : ℕ) (history : List Entry) → IsLegal w limit history →
    (state_of w history).committed ≡ false → ¬ (IsGood w (state_of w history).journal) →
    ((claim : Claim) × (claim ∈ current_claims (state_of w history))) ⊎ ((n : ℕ) × CanGoOnInFolded w (state_of w history) n)

-- nothing is left, by folded options, but tests and absences that are false now
pub record IsStuckInFolded (w : Schema) (s : RunState) : Type 0 where
  pub going_on : s.committed ≡ false
  pub no_claim : current_claims s ≡ []
  pub unfinished : ¬ (IsGood w s.journal)
  pub only_waiting : (n : ℕ) → CanGoOnInFolded w s n → FoldedCanDoAside w s n × ¬ (HoldsAt w.labels (database w s) n)

-- a run is stuck by folded options exactly where it is stuck
abbrev pub SameStuck : Type 0
SameStuck = (w : Schema) → IsWellFormed w → (s : RunState) → IsStuckInFolded w s ↔ IsStuck w s

abbrev pub NeverStuckInFolded : Type 0
NeverStuckInFolded = (w : Schema) → IsWellFormed w → IsConsistent w → Each NeverWaits w.labels →
    (limit : ℕ) (history : List Entry) → IsLegal w limit history → ¬ (IsStuckInFolded w (state_of w history))
