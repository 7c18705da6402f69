use Rattle.std.proofs.Common.{◌≡◌, ◌∙◌, ap}
use Rattle.flow_core.specs.Run.{Run}
use Rattle.flow_workflow.specs.Definition.{Definition}
use Rattle.flow_questions_cli.proofs.AskedLemmas.{both_of_texts}
use Rattle.flow_questions_cli.proofs.asked.named_told.Goals as goal

pub returns-clause-told : goal.returns-clause-told
returns-clause-told c = λ workflow policy is.
    let same : c.workflow.result.now ≡ c.args.subject.now.run.desk.run.definition = c.workflow.ensures ∙ ap (λ (r : Run). r.definition) c.core.ensures.run in
    both_of_texts workflow policy c.args.one.now c.args.two.now c.args.subject.now.run.rules c.args.subject.now.run c.workflow.result.now.events _ _ c.args.states _ is
    (ap (λ (w : Definition). w.events) same) c.in_ok-pair.ensures.first c.in_ok-pair.ensures.second c.in_ok-pair.ensures.different c.in_ok-both_told.ensures
