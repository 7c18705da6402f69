use Rattle.std.proofs.Common.{drop}
use Rattle.flow_sample.specs.ItemMarks.{Gathers}
use Rattle.flow_sample.proofs.items.items_of_plan.Given as goal

abbrev pub invariant-loop-node : goal.invariant-loop-node
invariant-loop-node g l = Gathers l.plan (drop l.node-index l.node-items) l.gathering
