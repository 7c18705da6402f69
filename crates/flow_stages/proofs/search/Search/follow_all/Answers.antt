use Rattle.std.proofs.Common.{◌≤◌, ◌+◌, ◌++◌, ◌∷◌, [], IsTrue, length, take, sym, ap, subst, arith}
use Rattle.leaf_rows.specs.Leaves.{has_leaf}
use Rattle.flow_model.specs.Facts.{HoldsAt, replay}
use Rattle.flow_model.specs.Lists.{◌∈◌}
use Rattle.flow_model.specs.Schema.{start_of}
use Rattle.flow_workflow.specs.Definition.{schema_of}
use Rattle.flow_stages.specs.Listed.{IsOpen, IsCovered}
use Rattle.flow_stages.proofs.Closure.{begins_more, covered_more, same_place, same_back}
use Rattle.flow_stages.proofs.Loops.{all_next, all_gone}
use Rattle.flow_stages.proofs.search.Search.follow_all.Goals as goal

pub loop-leaf-preserved : goal.loop-leaf-preserved
loop-leaf-preserved c =
    let w = schema_of c.args.self.now.workflow.now in
    let d = c.args.self.now.staff.policy.now.duties in
    let p = c.args.self.now.plan.now in
    let question = c.args.self.now.question in
    let k = c.loop-leaf.leaf-index in
    let same = c.leaves-leaf-items.ensures.leaves in
    let first = c.args.nodes.now.items in
    let old = c.loop-leaf.nodes.items in
    let new = c.follow_if_next.new.nodes.items in
    let grows = c.follow_if_next.ensures.grows in
    let going = subst IsOpen (sym c.in-Open.is) tt in record {
      reached = c.follow_if_next.ensures.reached;
      fewer = omega (arith, c.loop-leaf.invariant.fewer, c.follow_if_next.ensures.fewer);
      grows = begins_more first old new c.loop-leaf.invariant.grows grows;
      quiet = λ before. c.in_ok-look.ensures.quiet going (c.loop-leaf.invariant.quiet before);
      covered = λ node list n at was m row holds.
          all_next (λ x. IsTrue (has_leaf c.args.row.now x) → HoldsAt w.labels (replay w.labels (start_of w) list) x → IsCovered w d question new (list ++ x ∷ []))
          c.leaves-leaf-items.result.now k 0 c.loop-leaf-test.true
          (λ x j there h. covered_more w d question old new (list ++ x ∷ []) grows (c.loop-leaf.invariant.covered node list x at was (subst (λ l. x ∈ take k l) same j) there h))
          (λ there h. c.in_ok-look.ensures.covered going node list (same_place first old c.args.place node c.loop-leaf.invariant.grows at) was there h)
          n (subst (λ l. n ∈ take (k + 1) l) (sym same) m) row holds;
    }

pub returns-clause-covered : goal.returns-clause-covered
returns-clause-covered c = λ _ node list n at was m row holds.
    let w = schema_of c.args.self.now.workflow.now in
    let d = c.args.self.now.staff.policy.now.duties in
    let question = c.args.self.now.question in
    let k = c.loop-leaf.leaf-index in
    let leaves = c.args.self.now.plan.now.leaves in
    let past : length leaves ≤ k = omega (arith, c.loop-leaf-test.false, ap length c.leaves-leaf-items.ensures.leaves) in
    all_gone (λ x. IsTrue (has_leaf c.args.row.now x) → HoldsAt w.labels (replay w.labels (start_of w) list) x → IsCovered w d question c.loop-leaf.nodes.items (list ++ x ∷ [])) leaves k past
    (λ x j there h. c.loop-leaf.invariant.covered node list x at was j there h) n (subst (λ l. n ∈ l) (sym c.leaves-leaf-items.ensures.listed) m) row holds

pub follow_if_next-requires-clause-next : goal.follow_if_next-requires-clause-next
follow_if_next-requires-clause-next c = λ node at there.
    c.requires.next node _ (same_back c.args.nodes.now.items c.loop-leaf.nodes.items c.args.place node c.loop-leaf.invariant.grows c.requires.here at) there
