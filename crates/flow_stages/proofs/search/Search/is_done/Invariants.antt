use Rattle.std.proofs.Common.{ℕ, List}
use Rattle.flow_workflow.specs.Definition.{schema_of}
use Rattle.flow_stages.specs.Stages.{IsAfter}
use Rattle.flow_stages.proofs.LookLemmas.{IsEventBelow}
use Rattle.flow_stages.proofs.search.Search.is_done.Given as goal

abbrev pub invariant-loop-leaf : goal.invariant-loop-leaf
invariant-loop-leaf l = (list : List ℕ) → IsAfter (schema_of l.self.workflow.now) list l.stage → IsEventBelow (schema_of l.self.workflow.now) list l.leaf l.event → ⊥
