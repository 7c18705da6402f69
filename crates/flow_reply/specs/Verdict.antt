-- What a run came to: its status, and its report.
use Rattle.std.specs.Prelude.{ℕ, List}
use Rattle.flow_model.specs.Verdict as model
use Rattle.flow_core.specs.Run.{Run, now}
use Rattle.flow_reply.specs.Conclusion.{verdict_text}
use Rattle.flow_reply.specs.Report.{report_text}
use Rattle.flow_front.specs.declared.status.Status.{Status}
use Rattle.flow_front.specs.declared.status.Status.TheVariants.{Fine, No, Spent}

-- the status that a verdict ends with
abbrev pub ended : model.Verdict → Status
ended model.committed = Fine
ended model.spent = Spent
ended other = No

-- the report of a run with the verdict
abbrev pub report_of : Run → model.Verdict → List ℕ
report_of r verdict = report_text r.definition r.history (now r).journal (verdict_text verdict)
