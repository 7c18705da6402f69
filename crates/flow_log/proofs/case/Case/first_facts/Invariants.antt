use Rattle.std.proofs.Common.{take}
use Rattle.leaf_rows.specs.Leaves.{has_leaf}
use Rattle.flow_model.specs.Facts.{state_with}
use Rattle.flow_log.specs.Case.{AreFacts}
use Rattle.flow_log.proofs.case.Case.first_facts.Given as goal

abbrev pub invariant-loop-fact : goal.invariant-loop-fact
invariant-loop-fact g l = AreFacts l.self.workflow.now.tree.labels l.self.places.items (state_with (take l.fact-index l.fact-items)) (has_leaf l.facts)
