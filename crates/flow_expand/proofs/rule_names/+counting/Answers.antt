use Rattle.std.proofs.Common.{◌∙◌}
use Rattle.flow_expand.proofs.LaidGoalLemmas.{count_more}
use Rattle.flow_expand.proofs.rule_names.+counting.Goals as goal

pub count_names-loop-rule-preserved : goal.count_names-loop-rule-preserved
count_names-loop-rule-preserved t c =
    c.saturating_add-count.ensures
    ∙ count_more c.args.rules.now c.loop-rule.rule-index c.loop-rule.count c.count_names_in.result c.rule-item.result c.loop-rule-test.true c.rule-item.is c.loop-rule.invariant c.count_names_in.ensures
