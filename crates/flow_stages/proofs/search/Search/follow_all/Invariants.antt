use Rattle.std.proofs.Common.{◌≡◌, ◌≤◌, ◌++◌, ◌∷◌, [], ℕ, List, IsTrue, Some, slice_get, take}
use Rattle.leaf_rows.specs.Leaves.{has_leaf}
use Rattle.flow_model.specs.Facts.{HoldsAt, replay}
use Rattle.flow_model.specs.Lists.{◌∈◌, Begins}
use Rattle.flow_model.specs.Schema.{start_of}
use Rattle.flow_workflow.specs.Definition.{schema_of}
use Rattle.flow_stages.specs.declared.nodes.Node.{Node}
use Rattle.flow_stages.specs.Listed.{IsCovered, AreQuiet, AreReached}
use Rattle.flow_stages.specs.Stages.{IsAfter}
use Rattle.flow_stages.proofs.search.Search.follow_all.Given as goal

abbrev pub invariant-loop-leaf : goal.invariant-loop-leaf
invariant-loop-leaf l = record {
  reached : AreReached (schema_of l.self.workflow.now) l.self.plan.now l.nodes.items;
  fewer : l.states ≤ l.initial.states;
  grows : Begins l.nodes.items l.initial.nodes.items;
  quiet : AreQuiet (schema_of l.self.workflow.now) l.self.staff.policy.now.duties l.self.plan.now l.self.question l.initial.nodes.items →
      AreQuiet (schema_of l.self.workflow.now) l.self.staff.policy.now.duties l.self.plan.now l.self.question l.nodes.items;
  covered : (node : Node) (list : List ℕ) (n : ℕ) → slice_get l.initial.nodes.items l.place ≡ Some node → IsAfter (schema_of l.self.workflow.now) list node.stage →
      n ∈ take l.leaf-index l.self.plan.now.leaves → IsTrue (has_leaf l.row n) →
      HoldsAt (schema_of l.self.workflow.now).labels (replay (schema_of l.self.workflow.now).labels (start_of (schema_of l.self.workflow.now)) list) n →
      IsCovered (schema_of l.self.workflow.now) l.self.staff.policy.now.duties l.self.question l.nodes.items (list ++ n ∷ []);
}
