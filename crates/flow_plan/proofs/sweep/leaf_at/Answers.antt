use Rattle.std.proofs.Common.{◌∙◌}
use Rattle.flow_plan.proofs.SweepLemmas.{got}
use Rattle.flow_plan.proofs.sweep.leaf_at.Goals as goal

pub returns-clause-leaf : goal.returns-clause-leaf
returns-clause-leaf g c = let found = c.get.ensures.lookup in c.copied.ensures ∙ got c.args.leaves.now c.args.place c.get.result found.1 found.3
