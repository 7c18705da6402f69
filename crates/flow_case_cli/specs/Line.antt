-- The line of a trail that tells an entry of a run.
use Rattle.std.specs.Prelude.{◌≡◌, ℕ, List, [], Option, Some, None}
use Rattle.std.specs.Str.{IsUtf8}
use Rattle.flow_model.specs.declared.history.Step.{Step}
use Rattle.flow_model.specs.Verdict.{call_of}
use Rattle.flow_ask.specs.declared.ask.Ask.{Ask}
use Rattle.flow_ask.specs.declared.ask.Ask.TheVariants as ask
use Rattle.flow_workflow.specs.Definition.{Definition}
use Rattle.flow_workflow.specs.Label.{leaf_text}
use Rattle.flow_record.specs.History.{step_text}
use Rattle.flow_core.specs.Run.{Run, schema, now, with_entry}
use Rattle.flow_core.specs.Ask.{ComesOf}
use Rattle.flow_core.specs.Answers.{IsUnanswered}
use Rattle.flow_trail.specs.Lines.{Said, told}
use Rattle.flow_case_cli.specs.declared.asker.Asker.{Asker}

-- the leaf of a claim that is not answered
abbrev pub IsLeafOfClaim : Run → ℕ → Option ℕ → Type 0
IsLeafOfClaim r claim None = ¬ (IsUnanswered (now r) claim)
IsLeafOfClaim r claim (Some leaf) = IsUnanswered (now r) claim × ((call_of (schema r) (now r) claim).leaf ≡ leaf)

-- the leaf that an ask of the run is about, if it is about one
abbrev pub IsLeafOf : Run → Ask → Option ℕ → Type 0
IsLeafOf r (ask.Take leaf) found = found ≡ Some leaf
IsLeafOf r (ask.Do leaf) found = found ≡ Some leaf
IsLeafOf r (ask.Done claim) found = IsLeafOfClaim r claim found
IsLeafOf r (ask.Fail claim) found = IsLeafOfClaim r claim found
IsLeafOf r ask.Rewind found = found ≡ None
IsLeafOf r ask.Commit found = found ≡ None

-- the name of its task: the label of its leaf, and nothing where there is none
abbrev pub IsTaskOf : Definition → Option ℕ → List ℕ → Type 0
IsTaskOf w None task = task ≡ []
IsTaskOf w (Some leaf) task = IsUtf8 (leaf_text w leaf) → task ≡ leaf_text w leaf

-- the line tells the step: by whom, when, what, of which task, with which note
abbrev pub IsLineOf : Definition → Option ℕ → Step → Asker → Said → Type 0
IsLineOf w leaf step asker said = (task : List ℕ) × IsTaskOf w leaf task
    × (said ≡ told asker.at.now asker.name.now (step_text step) task asker.note.now)

-- the line tells the entry that came of the ask
abbrev pub TellsEntry : Run → Ask → ℕ → Run → Asker → Said → Type 0
TellsEntry r ask by after asker said =
    (step : Step) × (leaf : Option ℕ) × ComesOf ask step × (after ≡ with_entry r by step) × IsLeafOf r ask leaf × IsLineOf r.definition leaf step asker said
