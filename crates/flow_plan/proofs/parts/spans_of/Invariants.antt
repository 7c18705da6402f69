use Rattle.std.proofs.Common.{◌≤◌, drop}
use Rattle.flow_plan.specs.SpanMarks.{Outlines}
use Rattle.flow_plan.proofs.parts.spans_of.Given as goal

abbrev pub invariant-loop-node : goal.invariant-loop-node
invariant-loop-node l = record {
  place : l.outline.place ≤ l.node-index;
  drawn : Outlines l.goal.process (drop l.node-index l.node-items) l.outline;
}
