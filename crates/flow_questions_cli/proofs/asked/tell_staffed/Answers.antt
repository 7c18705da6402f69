use Rattle.flow_questions_cli.proofs.AskedLemmas.{staff_of_texts}
use Rattle.flow_questions_cli.proofs.asked.tell_staffed.Goals as goal

pub returns-clause-told : goal.returns-clause-told
returns-clause-told c =
    staff_of_texts c.args.workflow.now c.args.policy.now c.in_ok-subject.subject.run.rules c.in_ok-subject.subject.run c.args.states _ c.in_ok-subject.ensures.of_texts c.in_ok-told.ensures
