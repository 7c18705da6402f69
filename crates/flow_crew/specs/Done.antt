-- Runs in which every task succeeds.
use Rattle.std.specs.Prelude.{◌≡◌, ◌≤◌, ◌+◌, ◌*◌, ℕ, Bool, true, false, length, Some}
use Rattle.flow_model.specs.declared.history.Call.{Call}
use Rattle.flow_model.specs.declared.history.Entry.{Entry}
use Rattle.flow_model.specs.declared.history.Outcome.{Outcome}
use Rattle.flow_model.specs.declared.history.Outcome.TheVariants as outcome
use Rattle.flow_model.specs.declared.history.Step.{Step}
use Rattle.flow_model.specs.declared.history.Step.TheVariants.{Failed, Late, Rewound}
use Rattle.flow_model.specs.declared.labels.Note.{Note}
use Rattle.flow_model.specs.declared.labels.Note.TheVariants as note
use Rattle.flow_model.specs.Lists.{Each}
use Rattle.flow_model.specs.Facts.{event_at}
use Rattle.flow_model.specs.Schema.{Schema, IsOtherLeaf}
use Rattle.flow_model.specs.Verdict.{note_of}
use Rattle.flow_laws.specs.WellFormed.{IsWellFormed, IsConsistent}
use Rattle.flow_laws.specs.Histories.{NeverWaits}
use Rattle.flow_core.specs.Run.{Run, schema, now}
use Rattle.flow_gate.specs.Gate.{is_same}
use Rattle.flow_gate.specs.NoteGate.{announced}
use Rattle.flow_core.specs.declared.end.End.{End}
use Rattle.flow_core.specs.declared.end.End.TheVariants as end
use Rattle.flow_crew.specs.Ends.{IsEnd}
use Rattle.flow_crew.specs.Invariant.{IsByWorkers}

-- nothing failed, nothing came late, and the run did not go back
abbrev pub IsPlainStep : Step → Type 0
IsPlainStep (Failed claim effect) = ⊥
IsPlainStep (Late claim) = ⊥
IsPlainStep (Rewound index) = ⊥
IsPlainStep other = Unit {0}

-- the call is for an event of the workflow, with what its declaration notes; attempts are counted from 1
abbrev pub IsCallFor : Schema → Call → Type 0
IsCallFor w call = (event_at w.labels call.leaf ≡ Some call.event) × (call.note ≡ note_of w call.event) × (1 ≤ call.attempt)

-- no such call fails
abbrev pub NeverFails : (Call → Outcome → Bool) → Schema → Type 0
NeverFails gives w = (call : Call) → IsCallFor w call → gives call outcome.Failed ≡ false

-- Workers run a workflow that has an execution, nothing in it waits, and no task fails.
pub record AllSucceeds (gives : Call → Outcome → Bool) (r : Run) : Type 0 where
  pub by_workers : IsByWorkers gives r
  pub well_formed : IsWellFormed (schema r)
  pub consistent : IsConsistent (schema r)
  pub never_waits : Each NeverWaits (schema r).labels
  pub never_fails : NeverFails gives (schema r)

abbrev pub DoneRunsArePlain : Type 0
DoneRunsArePlain = (gives : Call → Outcome → Bool) (r : Run) → AllSucceeds gives r → Each (λ (entry : Entry). IsPlainStep entry.step) r.history

-- two entries a leaf and one to commit are enough
abbrev pub DoneRunsCommit : Type 0
DoneRunsCommit = (gives : Call → Outcome → Bool) (r : Run) → AllSucceeds gives r → 2 * length (schema r).labels + 1 ≤ r.limit →
    (found : End) → IsEnd r found → found ≡ end.Committed

-- no leaf is a test, an absence, an insertion or a deletion
abbrev pub HoldsEventsAlone : Schema → Type 0
HoldsEventsAlone w = (leaf : ℕ) → ¬ (IsOtherLeaf w leaf)

-- two entries for each leaf that is done, where it is an event, and one to commit: just these are made
abbrev pub DoneRunsAreCounted : Type 0
DoneRunsAreCounted = (gives : Call → Outcome → Bool) (r : Run) → AllSucceeds gives r → HoldsEventsAlone (schema r) → (now r).committed ≡ true →
    length r.history ≡ 2 * length (now r).journal + 1

-- a task whose event is declared so succeeds at each attempt
abbrev pub DeclaresSuccess : Note → Type 0
DeclaresSuccess note.Done = Unit {0}
DeclaresSuccess note.Fail = ⊥
DeclaresSuccess (note.FailFirst count) = count ≡ 0

-- a gate that goes by the declarations
abbrev pub SuccessIsAsDeclared : Type 0
SuccessIsAsDeclared = (w : Schema) → Each DeclaresSuccess w.notes → NeverFails (λ call answer. is_same answer (announced call)) w
