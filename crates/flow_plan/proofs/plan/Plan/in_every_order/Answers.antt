use Rattle.std.proofs.Common.{sym, ◌∙◌}
use Rattle.std.proofs.lemmas.Bool.{false≢true, true≢false}
use Rattle.leaf_rows.specs.Leaves.{has_leaf}
use Rattle.flow_plan.specs.Sided.{IsDoneIn}
use Rattle.flow_plan.proofs.Following.{by_two}
use Rattle.flow_plan.proofs.Readiness.{all_small}
use Rattle.flow_plan.proofs.StepRows.{orders_distinct}
use Rattle.flow_plan.proofs.plan.Plan.in_every_order.Goals as goal

pub returns-then-not-each_ready : goal.returns-then-not-each_ready
returns-then-not-each_ready c = (
  λ wrong. absurd (false≢true wrong),
  λ all. absurd (true≢false (sym (c.each_ready.ensures.1 (by_two c.args.self.now (has_leaf c.args.sides.now.done) c.args.list.now all).0) ∙ c.if-not-each_ready.true)),
)

pub distinct-requires : goal.distinct-requires
distinct-requires c = all_small c.self.inside.rows (IsDoneIn c.args.sides.now) c.args.list.now c.self.invariant c.self.view_is (c.each_ready.ensures.0 c.if-not-each_ready.false)

pub returns-in-None : goal.returns-in-None
returns-in-None c = (
  λ wrong. absurd (false≢true wrong),
  λ all. absurd (c.in-None.ensures.none (orders_distinct c.args.self.now (has_leaf c.args.sides.now.done) c.args.list.now all)),
)

pub returns-in-Some : goal.returns-in-Some
returns-in-Some c =
    c.go_together.ensures (has_leaf c.args.sides.now.done) c.args.list.now c.in-Some.ensures.some.1 c.in-Some.ensures.some.0 (c.each_ready.ensures.0 c.if-not-each_ready.false) c.requires.apart
