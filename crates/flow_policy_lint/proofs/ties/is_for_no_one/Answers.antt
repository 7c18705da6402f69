use Rattle.std.proofs.Common.{sym, true≢false}
use Rattle.flow_policy_lint.proofs.BoolLemmas.{or_else}
use Rattle.flow_policy_lint.proofs.ties.is_for_no_one.Goals as goal

pub returns-else-are_separate : goal.returns-else-are_separate
returns-else-are_separate c = or_else c.nobody_has_both.result (λ has. true≢false (sym (c.if-are_separate.ensures.1 has))) c.nobody_has_both.ensures
