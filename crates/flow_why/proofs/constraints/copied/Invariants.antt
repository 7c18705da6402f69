use Rattle.std.proofs.Common.{◌≡◌, take}
use Rattle.flow_workflow.specs.Rule.{rules_of}
use Rattle.flow_why.specs.Constraints.{constraints_at}
use Rattle.flow_why.proofs.constraints.copied.Given as goal

abbrev pub invariant-loop-member : goal.invariant-loop-member
invariant-loop-member l = rules_of l.copies.items ≡ constraints_at l.workflow.rules (take l.member-index l.members)
