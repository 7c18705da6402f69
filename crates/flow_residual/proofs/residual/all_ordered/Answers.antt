use Rattle.flow_residual.specs.Telling.{IsOrderedOption}
use Rattle.flow_residual.proofs.OptionLemmas.{each_plan_more, each_plan_all}
use Rattle.flow_residual.proofs.residual.all_ordered.Goals as goal

pub loop-plan-preserved : goal.loop-plan-preserved
loop-plan-preserved c = each_plan_more IsOrderedOption c.args.plans.now c.loop-plan.plan-index c.plan-item.result c.plan.result.now c.loop-plan-test.true c.plan-item.is c.plan.ensures
    c.tokens-tokens.ensures.ordered c.loop-plan.invariant

pub returns : goal.returns
returns c = each_plan_all IsOrderedOption c.args.plans.now c.loop-plan.plan-index c.loop-plan-test.false c.loop-plan.invariant
