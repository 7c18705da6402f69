use Rattle.std.proofs.Common.{◌≡◌, Some, None, ap, sym, subst, ◌∙◌}
use Rattle.flow_model.specs.Facts.{event_at}
use Rattle.flow_stages.specs.Fitting.{taker_by}
use Rattle.flow_questions.proofs.run.do_leaf.Goals as goal

pub returns-in-Some-clause-made : goal.returns-in-Some-clause-made
returns-in-Some-clause-made c = λ leaves next.
    let same : c.workflow.result.now ≡ c.args.run.now.desk.run.definition = c.workflow.ensures ∙ ap (λ r. r.definition) c.core.ensures.run in
    let labels : c.tree.result.now.labels ≡ c.args.run.now.desk.run.definition.tree.labels = ap (λ t. t.labels) c.tree.ensures.tree ∙ ap (λ d. d.tree.labels) same in
    c.do_event.ensures.made leaves (taker_by c.args.takers.now) c.in-Some.event next
    (subst (λ l. event_at l c.args.leaf ≡ Some c.in-Some.event) labels (sym c.in-Some.ensures)) c.taker_of.ensures

pub returns-in-None-clause-made : goal.returns-in-None-clause-made
returns-in-None-clause-made c = λ leaves next.
    let same : c.workflow.result.now ≡ c.args.run.now.desk.run.definition = c.workflow.ensures ∙ ap (λ r. r.definition) c.core.ensures.run in
    let labels : c.tree.result.now.labels ≡ c.args.run.now.desk.run.definition.tree.labels = ap (λ t. t.labels) c.tree.ensures.tree ∙ ap (λ d. d.tree.labels) same in
    c.do_other.ensures.made leaves (taker_by c.args.takers.now) c.args.claim next
    (subst (λ l. event_at l c.args.leaf ≡ None) labels (sym c.in-None.ensures))
