use Rattle.flow_log.proofs.CaseLemmas.{ArePlacesBelow}
use Rattle.std.proofs.Common.{length}
use Rattle.flow_log.proofs.fact_places.fact_places.Given as goal

abbrev pub invariant-loop-leaf : goal.invariant-loop-leaf
invariant-loop-leaf l = ArePlacesBelow (length l.workflow.facts) l.workflow.tree.labels l.places.items l.leaf
