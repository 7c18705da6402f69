use Rattle.std.proofs.Common.{refl}
use Rattle.flow_policy_lint.proofs.BoolLemmas.{both}
use Rattle.flow_policy_lint.proofs.ties.is_separate_in_vain.Goals as goal

pub returns-then-are_separate : goal.returns-then-are_separate
returns-then-are_separate c = both c.no_two_have.result (c.if-are_separate.ensures.0 refl) c.no_two_have.ensures
