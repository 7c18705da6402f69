-- A look at a run has one text, and a run with its verdict one report.
use Rattle.std.specs.Prelude.{◌≡◌, ℕ, List}
use Rattle.flow_ask.specs.declared.ask.Look.{Look}
use Rattle.flow_core.specs.Run.{Run}
use Rattle.flow_reply.specs.declared.verdict.Verdict.{Verdict}
use Rattle.flow_reply.specs.Look.{IsShown}
use Rattle.flow_reply.specs.Report.{IsReport}

abbrev pub LooksAreSingle : Type 0
LooksAreSingle = (r : Run) (look : Look) (one other : List ℕ) → IsShown r look one → IsShown r look other → one ≡ other

abbrev pub ReportsAreSingle : Type 0
ReportsAreSingle = (r : Run) (verdict : Verdict) (one other : List ℕ) → IsReport r verdict one → IsReport r verdict other → one ≡ other
