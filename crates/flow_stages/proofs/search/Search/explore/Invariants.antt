use Rattle.std.proofs.Common.{◌≡◌, ◌≤◌, ◌<◌, ℕ, Some, slice_get}
use Rattle.flow_model.specs.Lists.{Begins}
use Rattle.flow_workflow.specs.Definition.{schema_of}
use Rattle.flow_stages.specs.declared.nodes.Node.{Node}
use Rattle.flow_stages.specs.Listed.{IsFollowed, AreQuiet, AreReached}
use Rattle.flow_stages.proofs.search.Search.explore.Given as goal

abbrev pub invariant-loop-place : goal.invariant-loop-place
invariant-loop-place l = record {
  reached : AreReached (schema_of l.self.workflow.now) l.self.plan.now l.nodes.items;
  fewer : l.states ≤ l.initial.states;
  grows : Begins l.nodes.items l.initial.nodes.items;
  quiet : AreQuiet (schema_of l.self.workflow.now) l.self.staff.policy.now.duties l.self.plan.now l.self.question l.initial.nodes.items →
      AreQuiet (schema_of l.self.workflow.now) l.self.staff.policy.now.duties l.self.plan.now l.self.question l.nodes.items;
  followed : (k : ℕ) (node : Node) → k < l.place → slice_get l.nodes.items k ≡ Some node →
      IsFollowed (schema_of l.self.workflow.now) l.self.staff.policy.now.duties l.self.plan.now l.self.question l.nodes.items node.stage;
}
