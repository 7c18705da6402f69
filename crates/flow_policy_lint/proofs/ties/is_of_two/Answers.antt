use Rattle.std.proofs.Common.{refl}
use Rattle.flow_policy_lint.proofs.BoolLemmas.{and_not}
use Rattle.flow_policy_lint.proofs.ties.is_of_two.Goals as goal

pub returns-then-has_role : goal.returns-then-has_role
returns-then-has_role c = and_not c.is_alone.result (c.if-has_role.ensures.0 refl) c.is_alone.ensures
