-- The report of a session.
use Rattle.std.specs.Prelude.{◌≡◌, ℕ, List, ◌++◌, length, codes}
use Rattle.std.specs.Fmt.{decimal}
use Rattle.flow_model.specs.declared.history.Entry.{Entry}
use Rattle.flow_core.specs.Run.{Run, now}
use Rattle.flow_record.specs.History.{history_text}
use Rattle.flow_record.specs.Journal.{journal_text}
use Rattle.flow_workflow.specs.Definition.{Definition}
use Rattle.flow_reply.specs.declared.report.Report.{Report}
use Rattle.flow_reply.specs.declared.verdict.Verdict.{Verdict}
use Rattle.flow_reply.specs.Conclusion.{meaning_of, verdict_text, IsVerdictText}
use Rattle.flow_reply.specs.Conclusion.{Means}

-- the whole report, each line with its line feed, the verdict in these words
abbrev pub report_text : Definition → List Entry → List ℕ → List ℕ → List ℕ
report_text w history journal words =
    codes "history " ++ decimal (length history) ++ codes "\n" ++ history_text history
    ++ codes "journal " ++ decimal (length journal) ++ codes "\n" ++ journal_text w journal
    ++ codes "verdict " ++ words ++ codes "\n"

-- the report as text
abbrev pub text_of_report : Definition → Report → List ℕ
text_of_report w report = report_text w report.history.now report.journal.now (verdict_text (meaning_of report.conclusion))

-- it is the report of a run with the verdict
pub record IsReportOf (r : Run) (verdict : Verdict) (report : Report) : Type 0 where
  pub history : report.history.now ≡ r.history
  pub journal : report.journal.now ≡ (now r).journal
  pub conclusion : Means r verdict (meaning_of report.conclusion)

-- the text of the report of a run with the verdict
abbrev pub IsReport : Run → Verdict → List ℕ → Type 0
IsReport r verdict text = (words : List ℕ) × IsVerdictText r verdict words × (text ≡ report_text r.definition r.history (now r).journal words)
