use Rattle.std.proofs.Common.{arith}
use Rattle.flow_gen.proofs.Steps.{all_constraints, constraints_step, after_two, after_two_length}
use Rattle.flow_gen.proofs.rules.rules_of.Goals as goal

pub loop-rest-preserved : goal.loop-rest-preserved
loop-rest-preserved c =
    let rest = c.loop-rest.rest.now in (
      omega (arith, after_two_length rest, c.loop-rest.invariant.0, c.in-len2-up.len_at_least),
      constraints_step c.loop-rest.first rest _ _ _ _ _ c.in-len2-up.len_at_least (after_two rest) c.in_ok-rule_of.ensures c.in_ok-push.ensures.items c.loop-rest.invariant.1,
    )

pub returns : goal.returns
returns c = all_constraints c.loop-rest.first c.loop-rest.rest.now _ _ c.in_default.len_below c.loop-rest.invariant.1
