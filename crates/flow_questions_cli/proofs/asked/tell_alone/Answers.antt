use Rattle.std.proofs.Common.{◌⊎◌, inr}
use Rattle.std.proofs.lemmas.Result.{IfErr-weaker}
use Rattle.flow_questions_cli.specs.declared.stop.QuestionStop.{QuestionStop}
use Rattle.flow_questions_cli.specs.Stops.{IsNoSubject, IsMisnamed, IsNoMemory}
use Rattle.flow_questions_cli.proofs.asked.tell_alone.Goals as goal

pub returns-clause-refused : goal.returns-clause-refused
returns-clause-refused c =
    IfErr-weaker c.named_told-told.result (λ (stop : QuestionStop). IsMisnamed c.args.workflow.now c.args.policy.now c.args.one.now c.args.two.now stop ⊎ IsNoMemory stop)
    (λ (stop : QuestionStop). IsNoSubject c.args.workflow.now c.args.policy.now stop
    ⊎ (IsMisnamed c.args.workflow.now c.args.policy.now c.args.one.now c.args.two.now stop ⊎ IsNoMemory stop))
    (λ stop is. inr is) (c.named_told-told.ensures.refused c.args.workflow.now c.args.policy.now c.in_ok-subject.ensures.of_texts)
