use Rattle.std.proofs.Common.{◌≡◌, Some, sym, ap, subst, ◌∙◌}
use Rattle.flow_model.specs.Facts.{event_at}
use Rattle.flow_model.specs.Lists.{◌∈◌}
use Rattle.flow_workflow.specs.Definition.{schema_of}
use Rattle.flow_stages.specs.Fitting.{HasSomebody}
use Rattle.flow_stages.proofs.LookLemmas.{unmanned_shown}
use Rattle.flow_stages.proofs.search.Search.look_at_leaf.Goals as goal

pub returns-in-Never-clause-manned : goal.returns-in-Never-clause-manned
returns-in-Never-clause-manned c = λ to e fits of going.
    let d = c.args.self.now.staff.policy.now.duties in
    let events = c.args.events.now in
    let both : Some c.in-Some.event ≡ Some e = sym c.in-Some.is ∙ c.event.ensures ∙ ap (λ t. event_at t.labels c.args.leaf) c.tree.ensures.tree ∙ of in
    let same : c.in-Some.event ≡ e = cc in
    subst (λ x. HasSomebody d x (λ f. f ∈ events) to) same (c.in_ok-fill_for_nobody.ensures.never to fits c.in-Never.is)

pub returns-in-Found-clause-told : goal.returns-in-Found-clause-told
returns-in-Found-clause-told c = λ looked may.
    let w = schema_of c.args.self.now.workflow.now in
    let d = c.args.self.now.staff.policy.now.duties in
    let p = c.args.self.now.plan.now in
    let question = c.args.self.now.question in
    let of : event_at w.labels c.args.leaf ≡ Some c.in-Some.event = sym (sym c.in-Some.is ∙ c.event.ensures ∙ ap (λ t. event_at t.labels c.args.leaf) c.tree.ensures.tree) in
    let (fits, none) = c.in_ok-fill_for_nobody.ensures.found c.in-Found.is in
    c.shown.ensures.told w d p question c.fill_for_nobody.new.states
    (unmanned_shown w d p question c.args.node.now c.args.events.now c.fill_for_nobody.new.taken.items c.in-Some.event c.args.leaf looked may of fits none)
