-- Where a run stands after its entries, each of them legal; or which is the first that is not.
use Rattle.std.specs.Prelude.{◌≡◌, ◌<◌, ◌+◌, ℕ, max, min, List, length, take}
use Rattle.flow_model.specs.declared.limits.TheConstants.{MOST_ENTRIES}
use Rattle.flow_model.specs.declared.history.Entry.{Entry}
use Rattle.flow_model.specs.Schema.{Schema}
use Rattle.flow_model.specs.Run.{IsLegal}
use Rattle.flow_workflow.specs.Definition.{Definition, schema_of}
use Rattle.flow_core.specs.Run.{Run}
use Rattle.flow_view.specs.declared.mark.Mark.{Mark}
use Rattle.flow_desk.specs.Mark.{AreMarks}

-- how long a history of so many entries may be: no run has more than MOST_ENTRIES
abbrev pub steps_for : ℕ → ℕ
steps_for count = max (min count MOST_ENTRIES) 1

-- the run of the workflow with that history
abbrev pub run_with : Definition → List Entry → Run
run_with w entries = record { definition = w; limit = steps_for (length entries); history = entries }

-- those before it are legal, and with it they are not
pub record IsFirstIllegal (w : Schema) (limit : ℕ) (entries : List Entry) (index : ℕ) : Type 0 where
  pub within : index < length entries
  pub legal : IsLegal w limit (take index entries)
  pub none : ¬ (IsLegal w limit (take (index + 1) entries))

-- the history is legal, and these are the marks of its run
pub record IsReplayed (w : Definition) (entries : List Entry) (run : Run) (marks : List Mark) : Type 0 where
  pub legal : IsLegal (schema_of w) (steps_for (length entries)) entries
  pub run_is : run ≡ run_with w entries
  pub marks_are : AreMarks run marks
