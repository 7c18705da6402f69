use Rattle.std.proofs.Common.{sym, subst}
use Rattle.flow_conformance.specs.declared.judge.Verdict.{Verdict}
use Rattle.flow_log_cli.specs.Judging.{IsVerdict}
use Rattle.flow_log_cli.proofs.JudgingLemmas.{judged}
use Rattle.flow_log_cli.proofs.judge.WorkflowJudgeJudge.judge.Goals as goal

pub returns : goal.returns
returns c =
    rw (← c.self.view_is)
    (subst (λ (v : Verdict). IsVerdict c.self.inside.workflow.now c.args.events.now v) (sym c.verdict_of-verdict.ensures)
    (judged c.self.inside.workflow.now c.args.events.now c.self.inside.budget c.in_ok-found.found c.in_ok-found.ensures.told))
