use Rattle.std.proofs.Common.{take}
use Rattle.flow_policy_lint.proofs.RoleLemmas.{NoneAllow}
use Rattle.flow_policy_lint.proofs.roles.is_allowed.Given as goal

abbrev pub invariant-loop-head : goal.invariant-loop-head
invariant-loop-head l = NoneAllow l.role (take l.head-index l.heads)
