use Rattle.std.proofs.Common.{take}
use Rattle.flow_model.specs.Lists.{Each}
use Rattle.flow_plan.specs.Options.{options_of}
use Rattle.flow_residual.specs.Telling.{IsOrderedOption}
use Rattle.flow_residual.proofs.residual.all_ordered.Given as goal

abbrev pub invariant-loop-plan : goal.invariant-loop-plan
invariant-loop-plan l = Each IsOrderedOption (options_of (take l.plan-index l.plans))
