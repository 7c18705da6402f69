-- Each ask of a case has one answer, and leaves one case.
use Rattle.std.specs.Prelude.{◌≡◌, ℕ, Result}
use Rattle.flow_ask.specs.declared.ask.Ask.{Ask}
use Rattle.flow_ask.specs.declared.made.Made.{Made}
use Rattle.flow_ask.specs.declared.refusal.Refusal.{Refusal}
use Rattle.flow_case.specs.declared.case_run.CaseRun.{CaseRun}
use Rattle.flow_case.specs.CaseRun.{CaseAnswers}

abbrev pub CaseAnswersAreSingle : Type 0
CaseAnswersAreSingle = (c : CaseRun) (what : Ask) (by : ℕ) (a b : Result Made Refusal) (after other : CaseRun) →
    CaseAnswers c what by a after → CaseAnswers c what by b other → (a ≡ b) × (after ≡ other)
