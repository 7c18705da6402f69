use Rattle.std.proofs.Common.{◌≡◌, ◌+◌, IsTrue, Some, sym, subst, take, length, ◌≤◌, ap, arith}
use Rattle.leaf_rows.specs.Leaves.{has_leaf}
use Rattle.flow_model.specs.Facts.{event_at}
use Rattle.flow_model.specs.Lists.{◌∈◌}
use Rattle.flow_workflow.specs.Definition.{schema_of}
use Rattle.flow_stages.specs.Fitting.{HasSomebody}
use Rattle.flow_stages.specs.Listed.{IsOpen}
use Rattle.flow_stages.proofs.Closure.{not_open}
use Rattle.flow_stages.proofs.Loops.{all_next, all_gone}
use Rattle.flow_stages.proofs.search.Search.look_at_next.Goals as goal

pub loop-leaf-preserved : goal.loop-leaf-preserved
loop-leaf-preserved c = record {
  manned = λ to n e fits m row of.
      let w = schema_of c.args.self.now.workflow.now in
      let d = c.args.self.now.staff.policy.now.duties in
      let k = c.loop-leaf.leaf-index in
      let all = c.leaves-leaf-items.result.now in
      let same = c.leaves-leaf-items.ensures.leaves in
      all_next (λ x. IsTrue (has_leaf c.args.row.now x) → event_at w.labels x ≡ Some e → HasSomebody d e (λ f. f ∈ c.args.events.now) to) all k 0 c.loop-leaf-test.true
      (λ x j. c.loop-leaf.invariant.manned to x e fits (subst (λ l. x ∈ take k l) same j))
      (λ there is. c.in_ok-look.ensures.manned to e fits there is (subst IsOpen (sym c.in-Open.is) tt))
      n (subst (λ l. n ∈ take (k + 1) l) (sym same) m) row of;
  fewer = omega (arith, c.look_if_next.ensures.fewer, c.loop-leaf.invariant.fewer);
}

pub returns-clause-manned : goal.returns-clause-manned
returns-clause-manned c = λ to n e fits m row of going.
    let w = schema_of c.args.self.now.workflow.now in
    let d = c.args.self.now.staff.policy.now.duties in
    let k = c.loop-leaf.leaf-index in
    let leaves = c.args.self.now.plan.now.leaves in
    let past : length leaves ≤ k = omega (arith, c.loop-leaf-test.false, ap length c.leaves-leaf-items.ensures.leaves) in
    all_gone (λ x. IsTrue (has_leaf c.args.row.now x) → event_at w.labels x ≡ Some e → HasSomebody d e (λ f. f ∈ c.args.events.now) to) leaves k past
    (λ x j. c.loop-leaf.invariant.manned to x e fits j) n (subst (λ l. n ∈ l) (sym c.leaves-leaf-items.ensures.listed) m) row of

pub returns-clause-fewer : goal.returns-clause-fewer
returns-clause-fewer c = c.loop-leaf.invariant.fewer

pub returns-in_err-look-clause-fewer : goal.returns-in_err-look-clause-fewer
returns-in_err-look-clause-fewer c = omega (arith, c.look_if_next.ensures.fewer, c.loop-leaf.invariant.fewer)

pub returns-in_default : goal.returns-in_default
returns-in_default c = record {
  manned = λ to n e fits m row of going. absurd (not_open c.in_ok-look.look c.in_default.not-Open going);
  going = c.in_ok-look.ensures.going;
  told = λ looked rows. c.in_ok-look.ensures.told looked (rows _);
  fewer = omega (arith, c.look_if_next.ensures.fewer, c.loop-leaf.invariant.fewer);
}
