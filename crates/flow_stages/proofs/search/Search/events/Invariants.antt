use Rattle.std.proofs.Common.{◌↔◌, ◌⊎◌, ℕ, List}
use Rattle.flow_model.specs.Lists.{◌∈◌}
use Rattle.flow_workflow.specs.Definition.{schema_of}
use Rattle.flow_stages.specs.Asked.{IsNamedBy}
use Rattle.flow_stages.specs.Stages.{IsAfter}
use Rattle.flow_stages.proofs.LookLemmas.{IsEventBelow}
use Rattle.flow_stages.proofs.search.Search.events.Given as goal

abbrev pub invariant-loop-leaf : goal.invariant-loop-leaf
invariant-loop-leaf l = (list : List ℕ) → IsAfter (schema_of l.self.workflow.now) list l.stage →
    (e : ℕ) → (e ∈ l.events.items) ↔ (IsNamedBy l.self.question e ⊎ IsEventBelow (schema_of l.self.workflow.now) list l.leaf e)
