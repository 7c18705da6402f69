use Rattle.std.proofs.Common.{◌+◌, ◌∙◌, List, length, ap, sym, eqb-true, drop, subst, arith}
use Rattle.std.proofs.lemmas.List.{drop_all, drop_more}
use Rattle.flow_goal.specs.declared.node.Node.{Node}
use Rattle.flow_goal.specs.declared.node.Node.TheVariants.{Nop}
use Rattle.flow_plan.specs.SpanMarks.{Outlines}
use Rattle.flow_plan.proofs.MarkLemmas.{all_drawn, nothing}
use Rattle.flow_plan.proofs.parts.spans_of.Goals as goal

pub loop-node-preserved : goal.loop-node-preserved
loop-node-preserved c =
    let nodes = c.nodes-node-items.result.now in
    let i = c.loop-node.node-index in record {
      place = omega (arith, c.in_ok-draw.ensures.place);
      drawn = c.in_ok-draw.ensures.drawn c.args.goal.now.process (drop (i + 1) nodes)
          (subst (λ (l : List Node). Outlines c.args.goal.now.process l c.loop-node.outline) (drop_more nodes i Nop c.loop-node-test.true) c.loop-node.invariant.drawn);
    }

pub returns : goal.returns
returns c =
    subst (λ (l : List Node). Outlines c.args.goal.now.process l c.loop-node.outline)
    (drop_all c.loop-node.node-index c.nodes-node-items.result.now c.loop-node-test.false) c.loop-node.invariant.drawn

pub returns-then-is_empty : goal.returns-then-is_empty
returns-then-is_empty c =
    all_drawn c.args.goal.now.process (drop c.loop-node.node-index c.nodes-node-items.result.now) c.loop-node.outline
    (omega (arith, c.if-outline-leaves.true) ∙ ap length (c.leaves-leaves.ensures.leaves ∙ c.leaves-leaves.ensures.listed))
    (nothing c.loop-node.outline.opens.items (omega (arith, eqb-true _ 0 (sym c.is_empty.ensures ∙ c.if-is_empty.true))))
    c.loop-node.invariant.drawn
