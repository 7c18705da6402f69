-- What a run by workers may add to a legal history, and what a history comes to.
use Rattle.std.specs.Prelude.{◌≡◌, ◌≢◌, ◌<◌, ℕ, true, false, ◌&&◌, ◌==◌, nat_le, if◌then◌else◌, List, [], ◌∷◌, ◌++◌, length, Option, Some, None, slice_get, ◌⊎◌, ◌↔◌}
use Rattle.std.specs.List.{count_by}
use Rattle.flow_model.specs.declared.history.Entry.{Entry}
use Rattle.flow_model.specs.declared.history.Step.{Step}
use Rattle.flow_model.specs.declared.history.Step.TheVariants.{Took, Done, Failed, Late, Did, Rewound, Committed}
use Rattle.flow_model.specs.declared.history.FailEffect.TheVariants.{Kept}
use Rattle.flow_model.specs.declared.history.Call.{Call}
use Rattle.flow_model.specs.declared.history.Outcome as outcome
use Rattle.flow_model.specs.declared.history.Outcome.{Outcome}
use Rattle.flow_model.specs.declared.labels.Note.{Note}
use Rattle.flow_model.specs.declared.labels.Note.TheVariants as note
use Rattle.flow_model.specs.Lists.{◌∈◌, Begins}
use Rattle.flow_model.specs.Facts.{event_at, is_event, Runs}
use Rattle.flow_model.specs.Schema.{Schema, start_of, IsGood}
use Rattle.flow_model.specs.Run.{Claim, RunState, state_of, leaf_of_claim, IsLegal, IsOpenIndex, IsStuck, Waits}

-- the event at a claim's leaf
abbrev pub event_of_claim : Schema → RunState → ℕ → ℕ
event_of_claim w s claim = event (event_at w.labels (leaf_of_claim s claim))
  where
    event : Option ℕ → ℕ
    event None = 0
    event (Some e) = e

-- what an event's declaration says of its task
abbrev pub note_of : Schema → ℕ → Note
note_of w e = noted (slice_get w.notes e)
  where
    noted : Option Note → Note
    noted None = note.Done
    noted (Some n) = n

-- how many claims up to that one are on leaves of the event
abbrev pub attempts : Schema → RunState → ℕ → ℕ → ℕ
attempts w s e number = count_by (λ (claim : Claim). nat_le claim.number number && is_event e (event_at w.labels claim.leaf)) s.claims

-- what the gate is asked for a claim
abbrev pub call_of : Schema → RunState → ℕ → Call
call_of w s claim = record {
  claim = claim;
  leaf = leaf_of_claim s claim;
  event = event_of_claim w s claim;
  attempt = attempts w s (event_of_claim w s claim) claim;
  note = note_of w (event_of_claim w s claim);
}

-- the history ends with a kept failure of that leaf
abbrev pub EndsKept : Schema → List Entry → ℕ → Type 0
EndsKept w history leaf = (earlier : List Entry) × ((entry : Entry) × ((claim : ℕ) ×
    (history ≡ earlier ++ entry ∷ []) × (entry.step ≡ Failed claim Kept) × (leaf_of_claim (state_of w earlier) claim ≡ leaf)))

-- after the earlier entries a run may make this one: it rewinds only where it must, and outcomes come from the gate
abbrev pub IsRunStep : (Call → Outcome → Type 0) → Schema → List Entry → Step → Type 0
IsRunStep gives w earlier (Took claim leaf) = Unit {0}
IsRunStep gives w earlier (Done claim) = gives (call_of w (state_of w earlier) claim) outcome.TheVariants.Done
IsRunStep gives w earlier (Failed claim effect) = gives (call_of w (state_of w earlier) claim) outcome.TheVariants.Failed
IsRunStep gives w earlier (Late claim) = Unit {0}
IsRunStep gives w earlier (Did leaf) = Unit {0}
IsRunStep gives w earlier (Rewound index) = IsStuck w (state_of w earlier) ⊎ ((leaf : ℕ) × EndsKept w earlier leaf)
IsRunStep gives w earlier Committed = Unit {0}

-- a legal history that workers may make with a gate
abbrev pub IsRunLegal : (Call → Outcome → Type 0) → Schema → ℕ → List Entry → Type 0
IsRunLegal gives w limit history = IsLegal w limit history ×
    ((earlier later : List Entry) (entry : Entry) → history ≡ earlier ++ entry ∷ later → IsRunStep gives w earlier entry.step)

-- what a history comes to
pub data Verdict : Type 0 where
  committed : Verdict
  -- it is as long as the limit
  spent : Verdict
  -- a task failed that every execution needs, and no choice is open
  no_other : ℕ → Verdict
  -- these leaves wait, and no choice is open
  stuck : List ℕ → Verdict
  unfinished : Verdict

-- the verdict of a driven session
abbrev pub drive_verdict : Schema → ℕ → List Entry → Verdict
drive_verdict w limit history =
    if (state_of w history).committed then committed else if length history == limit then spent else unfinished

-- the list rises, and its members are exactly those with P
pub record AreJust (P : ℕ → Type 0) (members : List ℕ) : Type 0 where
  pub rising : (front back : List ℕ) (x y : ℕ) → members ≡ front ++ x ∷ y ∷ back → x < y
  pub exact : (n : ℕ) → (n ∈ members) ↔ P n

-- no place of the journal is open
abbrev pub HasNoOpenIndex : Schema → List Entry → Type 0
HasNoOpenIndex w history = (i : ℕ) → ¬ (IsOpenIndex w (state_of w history) i)

-- the history is neither committed nor as long as the limit
abbrev pub MayGrow : Schema → ℕ → List Entry → Type 0
MayGrow w limit history = ((state_of w history).committed ≡ false) × (length history ≢ limit)

-- the verdict of a run, the first that applies; a run that has none goes on
abbrev pub IsRunVerdict : Schema → ℕ → List Entry → Verdict → Type 0
IsRunVerdict w limit history committed = (state_of w history).committed ≡ true
IsRunVerdict w limit history spent = ((state_of w history).committed ≡ false) × (length history ≡ limit)
IsRunVerdict w limit history (no_other leaf) = MayGrow w limit history × EndsKept w history leaf × HasNoOpenIndex w history
IsRunVerdict w limit history (stuck waiting) =
    MayGrow w limit history × ((leaf : ℕ) → ¬ (EndsKept w history leaf)) × HasNoOpenIndex w history
    × IsStuck w (state_of w history) × AreJust (Waits w (state_of w history)) waiting
IsRunVerdict w limit history unfinished = ⊥

-- The run stops at its first verdict, and goes back at once after a kept failure where it can.
pub record IsDriven (w : Schema) (limit : ℕ) (history : List Entry) : Type 0 where
  pub stops : (earlier later : List Entry) (entry : Entry) (verdict : Verdict) →
      history ≡ earlier ++ entry ∷ later → ¬ (IsRunVerdict w limit earlier verdict)
  pub goes_back : (earlier later : List Entry) (leaf i : ℕ) →
      history ≡ earlier ++ later → EndsKept w earlier leaf → IsOpenIndex w (state_of w earlier) i → length earlier < limit →
      (entry : Entry) × ((rest : List Entry) × (later ≡ entry ∷ rest) × (entry.step ≡ Rewound i))

-- the list begins some good trace, and its own tests hold in turn
abbrev pub IsPossible : Schema → List ℕ → Type 0
IsPossible w list = ((t : List ℕ) × IsGood w t × Begins t list) × Runs w.labels (start_of w) list
