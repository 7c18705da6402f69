-- What workers do to a run: how it goes on, and how the outcome of a task is told.
use Rattle.std.specs.Prelude.{◌≡◌, ◌≤◌, ℕ, ◌++◌, List, Result, Ok, Err, ◌⊎◌}
use Rattle.flow_model.specs.declared.history.Call.{Call}
use Rattle.flow_model.specs.declared.history.Entry.{Entry}
use Rattle.flow_model.specs.declared.history.FailEffect.{FailEffect}
use Rattle.flow_model.specs.declared.history.FailEffect.TheVariants.{Switched, Kept}
use Rattle.flow_model.specs.declared.history.Outcome.{Outcome}
use Rattle.flow_model.specs.declared.history.Outcome.TheVariants as outcome
use Rattle.flow_model.specs.declared.history.Step.{Step}
use Rattle.flow_model.specs.declared.history.Step.TheVariants.{Took, Did, Rewound, Committed}
use Rattle.flow_model.specs.Lists.{Each}
use Rattle.flow_model.specs.Schema.{IsEventLeaf, IsOtherLeaf}
use Rattle.flow_model.specs.Run.{IsOpenIndex}
use Rattle.flow_model.specs.Verdict.{call_of}
use Rattle.flow_core.specs.declared.next.Next.{Next}
use Rattle.flow_core.specs.declared.next.Next.TheVariants as next
use Rattle.flow_core.specs.declared.refusal.PostRefusal.{PostRefusal}
use Rattle.flow_core.specs.declared.refusal.RewindRefusal.{RewindRefusal}
use Rattle.flow_core.specs.Run.{Run, schema, now, with_entry}
use Rattle.flow_core.specs.Answers.{next_claim, IsUnanswered, PostsDone, PostsFailed, Rewinds}
use Rattle.flow_core.specs.Next.{IsNext}
use Rattle.flow_crew.specs.declared.moves.Move.{Move}
use Rattle.flow_crew.specs.declared.moves.Move.TheVariants.{Perform, Went, Wait, Over}
use Rattle.flow_crew.specs.Ends.{HasEnd, HasNoEnd}

-- the step by which a run goes on: an event's leaf is taken and another is done, a whole execution is committed, and a run
-- that is stuck goes back
abbrev pub IsNextStep : Run → Next → Step → Type 0
IsNextStep r (next.Act leaf) step =
    (IsEventLeaf (schema r) leaf × (step ≡ Took (next_claim r) leaf)) ⊎ (IsOtherLeaf (schema r) leaf × (step ≡ Did leaf))
IsNextStep r (next.Wait claim) step = ⊥
IsNextStep r next.Finished step = step ≡ Committed
IsNextStep r (next.Stuck leaf) step = (index : ℕ) × IsOpenIndex (schema r) (now r) index × (step ≡ Rewound index)
IsNextStep r next.Ended step = ⊥

-- the run goes on by one step
abbrev pub Advances : Run → ℕ → Step → Run → Type 0
Advances r by step after = (next : Next) × IsNext r next × IsNextStep r next step × (after ≡ with_entry r by step)

-- what the caller is to do after the step: to perform the task of a leaf that was taken
abbrev pub move_after : Run → Step → Move
move_after after (Took claim leaf) = Perform (call_of (schema after) (now after) claim)
move_after after other = Went

-- it is over exactly where a verdict stands
abbrev pub Tells : Run → Move → Move → Type 0
Tells after usual move = (HasEnd after × (move ≡ Over)) ⊎ (HasNoEnd after × (move ≡ usual))

-- A caller asks what to do. Where no verdict stands and no claim is to be waited for, the run goes on by one step.
abbrev pub IsBegun : Run → ℕ → Move → Run → Type 0
IsBegun r by move after =
    (HasEnd r × (move ≡ Over) × (after ≡ r))
    ⊎ (((claim : ℕ) × HasNoEnd r × IsNext r (next.Wait claim) × (move ≡ Wait claim) × (after ≡ r))
    ⊎ ((step : Step) × HasNoEnd r × Advances r by step after × Tells after (move_after after step) move))

-- it is the call of a claim of this run that is not answered
abbrev pub IsOut : Run → Call → Type 0
IsOut r call = IsUnanswered (now r) call.claim × (call ≡ call_of (schema r) (now r) call.claim)

-- after a failure that is kept the run goes back, where it can
abbrev pub GoesBack : Run → ℕ → Result FailEffect PostRefusal → Run → Type 0
GoesBack failed by (Ok Kept) after = (answer : Result ℕ RewindRefusal) × Rewinds failed by answer after
GoesBack failed by (Ok Switched) after = after ≡ failed
GoesBack failed by (Err refusal) after = after ≡ failed

-- the outcome of the call's task is told to the run
abbrev pub IsRecorded : Run → Call → Outcome → ℕ → Run → Type 0
IsRecorded r call outcome.Done by after = (answer : Result (Unit {0}) PostRefusal) × PostsDone r call.claim by answer after
IsRecorded r call outcome.Failed by after =
    (answer : Result FailEffect PostRefusal) × ((failed : Run) × PostsFailed r call.claim by answer failed × GoesBack failed by answer after)

-- A caller tells the outcome of a task. It counts for nothing after a verdict, or where the call is not one that is out.
abbrev pub IsPosted : Run → Call → Outcome → ℕ → Run → Type 0
IsPosted r call outcome by after =
    (HasEnd r × (after ≡ r))
    ⊎ ((HasNoEnd r × ¬ (IsOut r call) × (after ≡ r))
    ⊎ (HasNoEnd r × IsOut r call × IsRecorded r call outcome by after))

-- A caller tells the outcome of a task, and then asks what to do next.
abbrev pub IsPostedAndBegun : Run → Call → Outcome → ℕ → Move → Run → Type 0
IsPostedAndBegun r call outcome by move after = (told : Run) × IsPosted r call outcome by told × IsBegun told by move after

-- the run as it was, with further entries, each of them the caller's
abbrev pub IsContinued : Run → ℕ → Run → Type 0
IsContinued r by after =
    (added : List Entry) × (after ≡ record r { history = r.history ++ added }) × Each (λ (entry : Entry). entry.by ≡ by) added

-- the entry names one of so many workers
abbrev pub IsOfWorker : ℕ → Entry → Type 0
IsOfWorker workers entry = (1 ≤ entry.by) × (entry.by ≤ workers)

-- So many workers made the first entries, and what follows was made once they were joined, in the name of none of them.
abbrev pub IsOfCrew : ℕ → List Entry → Type 0
IsOfCrew workers history =
    (worked rest : List Entry) × (history ≡ worked ++ rest) × Each (IsOfWorker workers) worked × Each (λ (entry : Entry). entry.by ≡ 0) rest
