use Rattle.std.proofs.Common.{◌≡◌, ◌≤◌, ℕ, IsTrue, Some, take}
use Rattle.leaf_rows.specs.Leaves.{has_leaf}
use Rattle.flow_model.specs.Facts.{event_at}
use Rattle.flow_model.specs.Lists.{◌∈◌}
use Rattle.flow_workflow.specs.Definition.{schema_of}
use Rattle.flow_stages.specs.declared.wanted.Wanted.TheVariants.{Anybody}
use Rattle.flow_stages.specs.Fitting.{Fits, HasSomebody}
use Rattle.flow_stages.proofs.search.Search.look_at_next.Given as goal

abbrev pub invariant-loop-leaf : goal.invariant-loop-leaf
invariant-loop-leaf l = record {
  manned : (to : ℕ → ℕ) (n e : ℕ) → Fits l.self.staff.policy.now.duties Anybody (λ f. f ∈ l.events) to → n ∈ take l.leaf-index l.self.plan.now.leaves →
      IsTrue (has_leaf l.row n) → event_at (schema_of l.self.workflow.now).labels n ≡ Some e → HasSomebody l.self.staff.policy.now.duties e (λ f. f ∈ l.events) to;
  fewer : l.states ≤ l.initial.states;
}
