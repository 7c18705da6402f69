use Rattle.std.proofs.Common.{◌≡◌, take}
use Rattle.flow_workflow.specs.Rule.{rules_of}
use Rattle.flow_verify.proofs.verification.copied_rules.Given as goal

abbrev pub invariant-loop-rule : goal.invariant-loop-rule
invariant-loop-rule l = rules_of l.copies.items ≡ rules_of (take l.rule-index l.rules)
