use Rattle.std.proofs.Common.{◌≡◌, ◌<◌, length, ap, ◌∙◌, arith}
use Rattle.flow_model.specs.declared.limits.TheConstants.{MOST_LEAVES}
use Rattle.flow_workflow.specs.Definition.{schema_of}
use Rattle.flow_stages.specs.Asked.{IsNamedBy}
use Rattle.flow_stages.proofs.LookLemmas.{event_more, event_none, events_are}
use Rattle.flow_stages.proofs.search.Search.events.Goals.{in-Some+in_ok-push, in_default}
use Rattle.flow_stages.proofs.search.Search.events.Goals as goal

pub loop-leaf-preserved : goal.loop-leaf-preserved
loop-leaf-preserved c =
    let w = schema_of c.args.self.now.workflow.now in
    let named = IsNamedBy c.args.self.now.question in
    let leaf = c.loop-leaf.leaf in
    let count : c.leaves-leaf-end.result ≡ length w.labels = c.leaves-leaf-end.ensures.count ∙ ap (λ t. length t.labels) c.tree.ensures.tree in
    let small : leaf < MOST_LEAVES = omega (arith, c.loop-leaf-test.true, count, c.tree.ensures.small) in
    elim c.match-event_done.branch [
      | in-Some+in_ok-push v ↦ λ list was. event_more w list named c.loop-leaf.events.items _ leaf v.in-Some.event v.in-Some.ensures.some.0 ((was.done leaf).0 v.in-Some.ensures.some.1)
          (ap (λ l. l.items) v.events-is ∙ v.in_ok-push.ensures.items) (c.loop-leaf.invariant list was)
      | in_default v ↦ λ list was. event_none w list named c.loop-leaf.events.items _ leaf (λ event of m. v.in_default.ensures.none event of small ((was.done leaf).1 m))
          (ap (λ l. l.items) v.events-is) (c.loop-leaf.invariant list was)
    ]

pub returns : goal.returns
returns c = λ list was.
    let w = schema_of c.args.self.now.workflow.now in
    let count : c.leaves-leaf-end.result ≡ length w.labels = c.leaves-leaf-end.ensures.count ∙ ap (λ t. length t.labels) c.tree.ensures.tree in
    events_are w list c.args.self.now.question (IsNamedBy c.args.self.now.question) c.loop-leaf.events.items c.loop-leaf.leaf (omega (arith, count, c.loop-leaf-test.false)) (c.loop-leaf.invariant list was)
