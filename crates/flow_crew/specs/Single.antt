-- Each turn at a run has one answer, and leaves one run.
use Rattle.std.specs.Prelude.{◌≡◌, ℕ}
use Rattle.flow_model.specs.declared.history.Call.{Call}
use Rattle.flow_model.specs.declared.history.Outcome.{Outcome}
use Rattle.flow_core.specs.Run.{Run}
use Rattle.flow_core.specs.Single.{IsSingle}
use Rattle.flow_crew.specs.Moves.{IsBegun, IsPosted, IsPostedAndBegun}

abbrev pub BeginsAreSingle : Type 0
BeginsAreSingle = (r : Run) (by : ℕ) → IsSingle (IsBegun r by)

abbrev pub PostedsAreSingle : Type 0
PostedsAreSingle = (r : Run) (call : Call) (outcome : Outcome) (by : ℕ) (after other : Run) → IsPosted r call outcome by after → IsPosted r call outcome by other → after ≡ other

abbrev pub BothAreSingle : Type 0
BothAreSingle = (r : Run) (call : Call) (outcome : Outcome) (by : ℕ) → IsSingle (IsPostedAndBegun r call outcome by)
