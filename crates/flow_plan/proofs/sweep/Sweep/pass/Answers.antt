use Rattle.std.proofs.Common.{subst, sym, OnOk}
use Rattle.flow_goal.specs.declared.node.Node.{Node}
use Rattle.flow_goal.specs.declared.node.Node.TheVariants.{Fork, Split, Join, Choose, Or, Chosen}
use Rattle.flow_plan.specs.RowMarks.{Passes}
use Rattle.flow_plan.proofs.SweepLemmas.{by_either, nothing_passed}
use Rattle.flow_plan.proofs.sweep.Sweep.pass.Goals as goal

pub returns-in-Leaf : goal.returns-in-Leaf
returns-in-Leaf g c = subst (λ (node : Node). OnOk c.pass_leaf.result (Passes node c.args.leaves.now c.args.self.now c.pass_leaf.new.self)) (sym c.in-Leaf.is) c.pass_leaf.ensures

pub returns-in-Fork : goal.returns-in-Fork
returns-in-Fork g c =
    by_either (λ (node : Node). OnOk c.fork.result (Passes node c.args.leaves.now c.args.self.now c.fork.new.self)) c.args.node.now Fork Choose c.in-Fork.is c.fork.ensures c.fork.ensures

pub returns-in-Split : goal.returns-in-Split
returns-in-Split g c =
    by_either (λ (node : Node). OnOk c.split.result (Passes node c.args.leaves.now c.args.self.now c.split.new.self)) c.args.node.now Split Or c.in-Split.is c.split.ensures c.split.ensures

pub returns-in-Join : goal.returns-in-Join
returns-in-Join g c =
    by_either (λ (node : Node). OnOk c.join.result (Passes node c.args.leaves.now c.args.self.now c.join.new.self)) c.args.node.now Join Chosen c.in-Join.is c.join.ensures c.join.ensures

pub returns-in-Nop : goal.returns-in-Nop
returns-in-Nop g c = nothing_passed c.args.node.now c.args.leaves.now c.args.self.now c.in-Nop.is

pub returns-in-Nop-2 : goal.returns-in-Nop-2
returns-in-Nop-2 g c = nothing_passed c.args.node.now c.args.leaves.now c.args.self.now c.in-Nop.is

pub returns-in-Nop-3 : goal.returns-in-Nop-3
returns-in-Nop-3 g c = nothing_passed c.args.node.now c.args.leaves.now c.args.self.now c.in-Nop.is

pub returns-in-Nop-4 : goal.returns-in-Nop-4
returns-in-Nop-4 g c = nothing_passed c.args.node.now c.args.leaves.now c.args.self.now c.in-Nop.is
