use Rattle.std.proofs.Common.{ℕ, ◌+◌, List, drop, sym, ap, ◌∙◌, arith}
use Rattle.std.proofs.lemmas.List.{drop_all, drop_more}
use Rattle.flow_goal.specs.declared.node.Node.{Node}
use Rattle.flow_goal.specs.declared.node.Node.TheVariants.{Nop}
use Rattle.flow_goal.specs.Written.{read_on, goals_on}
use Rattle.flow_goal.proofs.choiceless.Choiceless.goal.Goals as goal

pub loop-node-preserved : goal.loop-node-preserved
loop-node-preserved c =
    let nodes = c.deref-node-items.result.now in
    let i = c.loop-node.node-index in
    let ns = c.deref.result.now in record {
      place = omega (arith, c.in_ok-place.ensures.next);
      read = ap (λ (ns : List ℕ). read_on (drop (i + 1) nodes) ns c.in_ok-place.place (goals_on c.read_node.new.stack.items)) (sym c.deref.ensures.value)
          ∙ sym (c.in_ok-place.ensures.read (drop (i + 1) nodes))
          ∙ sym (ap (λ (l : List Node). read_on l ns c.loop-node.place (goals_on c.loop-node.stack.items)) (drop_more nodes i Nop c.loop-node-test.true))
          ∙ ap (λ (ns : List ℕ). read_on (drop i nodes) ns c.loop-node.place (goals_on c.loop-node.stack.items)) c.deref.ensures.value ∙ c.loop-node.invariant.read;
    }

pub returns-clause-process : goal.returns-clause-process
returns-clause-process c =
    c.take_top.ensures.taken
    ∙ ap (λ (l : List Node). read_on l c.self.inside.leaves.items c.loop-node.place (goals_on c.loop-node.stack.items))
    (sym (drop_all c.loop-node.node-index c.deref-node-items.result.now c.loop-node-test.false)) ∙ c.loop-node.invariant.read
