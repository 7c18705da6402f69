use Rattle.std.proofs.Common.{map}
use Rattle.flow_model.specs.Verdict.{AreJust}
use Rattle.flow_policy_lint.specs.Findings.{IsOneBelow}
use Rattle.flow_policy_lint.specs.Heads.{said, IsIdleRole}
use Rattle.flow_policy_lint.proofs.roles.idle_roles.Given as goal

abbrev pub invariant-loop-number : goal.invariant-loop-number
invariant-loop-number l = AreJust (IsOneBelow l.number (IsIdleRole (map said l.heads))) l.found.items
