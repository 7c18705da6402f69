use Rattle.flow_plan.specs.Options.{options_of}
use Rattle.flow_trace.specs.Fronts.{AreReachingBelow}
use Rattle.flow_trace.proofs.follow.follow_each.Given as goal

abbrev pub invariant-loop-plan : goal.invariant-loop-plan
invariant-loop-plan l = AreReachingBelow l.leaves (options_of l.plans) l.plan-index l.longest
