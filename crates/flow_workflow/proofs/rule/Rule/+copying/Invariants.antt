use Rattle.std.proofs.Common.{◌≡◌, take}
use Rattle.flow_workflow.specs.Rule.{rules_of}
use Rattle.flow_workflow.proofs.rule.Rule.+copying.Given as goal

abbrev pub invariant-copy_each-loop-rule : goal.invariant-copy_each-loop-rule
invariant-copy_each-loop-rule l = rules_of l.copies.items ≡ rules_of (take l.rule-index l.rules)
