-- Who may be given a claim, who holds the claims that were given, and who has an event.
use Rattle.std.specs.Prelude.{◌≡◌, ℕ, Some, Result, Ok, Err}
use Rattle.flow_model.specs.Facts.{event_at}
use Rattle.flow_model.specs.Run.{CanTake}
use Rattle.flow_model.specs.Takers.{takings_of, IsTakenBy}
use Rattle.flow_core.specs.declared.refusal.TakeRefusal.{TakeRefusal}
use Rattle.flow_core.specs.Run.{Run, schema, now, IsUncommitted, HasEntryLeft}
use Rattle.flow_core.specs.Answers.{TakeIsRefused, IsUnanswered}

-- a claim on the leaf may be given
abbrev pub IsTakeable : Run → ℕ → Type 0
IsTakeable r leaf = IsUncommitted r × HasEntryLeft r × CanTake (schema r) (now r) leaf

-- it may, and that is the leaf's event; or why not
abbrev pub MayTake : Run → ℕ → Result ℕ TakeRefusal → Type 0
MayTake r leaf (Err refusal) = TakeIsRefused r leaf refusal
MayTake r leaf (Ok event) = IsTakeable r leaf × (event_at (schema r).labels leaf ≡ Some event)

-- a result may be posted for the claim, and be it too late
abbrev pub MayPost : Run → ℕ → Type 0
MayPost r claim = IsUncommitted r × IsUnanswered (now r) claim × HasEntryLeft r

-- nobody has a leaf of the event: none is done, and none is under a claim that is out
abbrev pub NoneHas : Run → ℕ → Type 0
NoneHas r event = (n by : ℕ) → event_at (schema r).labels n ≡ Some event → ¬ (IsTakenBy (now r) (takings_of r.history) n by)

-- that user has a leaf of the event, and nobody else has one
abbrev pub IsTheTaker : Run → ℕ → ℕ → Type 0
IsTheTaker r event by =
    ((n : ℕ) × (event_at (schema r).labels n ≡ Some event) × IsTakenBy (now r) (takings_of r.history) n by)
    × ((n other : ℕ) → event_at (schema r).labels n ≡ Some event → IsTakenBy (now r) (takings_of r.history) n other → other ≡ by)
