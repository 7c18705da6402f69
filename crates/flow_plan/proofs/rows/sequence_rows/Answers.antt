use Rattle.std.proofs.Common.{ℕ, ◌+◌, ◌<◌, ◌*◌, List, drop, subst, sym, ◌∙◌, arith}
use Rattle.std.specs.List.Sorted.{IsStrictlyIncreasing}
use Rattle.std.proofs.lemmas.List.{drop_all, drop_more}
use Rattle.flow_model.specs.Lists.{Each}
use Rattle.flow_model.specs.Ready.{InSequence}
use Rattle.flow_goal.specs.declared.node.Node.{Node}
use Rattle.flow_goal.specs.declared.node.Node.TheVariants.{Nop}
use Rattle.flow_plan.specs.RowMarks.{Completes}
use Rattle.flow_plan.specs.Rows.{AreRowsOf}
use Rattle.flow_plan.proofs.MarkLemmas.{begun_rows}
use Rattle.flow_plan.proofs.SweepLemmas.{all_read}
use Rattle.flow_plan.proofs.rows.sequence_rows.Goals as goal

pub loop-node-preserved : goal.loop-node-preserved
loop-node-preserved g c =
    let nodes = c.nodes-node-items.result.now in
    let i = c.loop-node.node-index in
    c.in_ok-pass.ensures c.args.goal.now.process (drop (i + 1) nodes)
    (subst (λ (l : List Node). Completes c.args.goal.now.process l c.leaves-leaves.result.now c.loop-node.sweep) (drop_more nodes i Nop c.loop-node-test.true) c.loop-node.invariant)

pub returns : goal.returns
returns g c =
    let q = c.args.goal.now.process in
    let done = subst (λ (l : List Node). Completes q l c.leaves-leaves.result.now c.loop-node.sweep)
    (drop_all c.loop-node.node-index c.nodes-node-items.result.now c.loop-node-test.false) c.loop-node.invariant in
    subst (λ (ns : List ℕ). AreRowsOf (InSequence q) ns c.loop-node.sweep.rows.items) c.leaves-leaves.ensures.leaves done.4

pub loop-node-init : goal.loop-node-init
loop-node-init g c =
    let leaves = c.leaves-leaves.ensures in
    let fresh = c.in_ok-sweep.ensures in
    begun_rows c.args.goal.now.process c.nodes-node-items.result.now c.leaves-leaves.result.now c.in_ok-sweep.sweep
    (subst IsStrictlyIncreasing (sym leaves.leaves) leaves.rising) c.nodes-node-items.ensures.nodes (leaves.leaves ∙ leaves.listed)
    fresh.joined fresh.ahead fresh.forks fresh.rows

pub returns-then-len-leaves : goal.returns-then-len-leaves
returns-then-len-leaves g c =
    let q = c.args.goal.now.process in
    let sweep = c.loop-node.sweep in
    subst (λ (ns : List ℕ). AreRowsOf (InSequence q) ns sweep.rows.items) c.leaves-leaves.ensures.leaves
    (all_read q (drop c.loop-node.node-index c.nodes-node-items.result.now) c.leaves-leaves.result.now sweep (omega (arith, c.len.ensures, c.if-len-leaves.true)) c.loop-node.invariant)

pub pass-requires : goal.pass-requires
pass-requires g c = (
  omega (arith, c.requires.wide),
  (c.requires.wide, subst (λ (ns : List ℕ). Each (λ n. n < 64 * g.row.W) ns) (sym c.leaves-leaves.ensures.leaves) c.requires.small),
)
