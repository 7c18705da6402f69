use Rattle.flow_workflow.specs.Definition.{schema_of}
use Rattle.flow_lint.specs.Constraints.{AreMarks, CanBeSeen, IsRedundant}
use Rattle.flow_lint.proofs.constraints.standings_of.Given as goal

abbrev pub invariant-loop-number : goal.invariant-loop-number
invariant-loop-number l = record {
  follows : AreMarks (IsRedundant (schema_of l.workflow)) l.number l.follows.items;
  unknown : AreMarks (λ number. ¬ (CanBeSeen (schema_of l.workflow) number)) l.number l.unknown.items;
}
