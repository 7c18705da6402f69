use Rattle.std.proofs.Common.{ℕ, Bool}
use Rattle.flow_plan.specs.Options.{options_of}
use Rattle.flow_residual.specs.Options.{NoneBelow}
use Rattle.flow_reach.specs.Reach.{HasAhead, TellsOfEach}
use Rattle.flow_reach.proofs.reach.some_ahead.Given as goal

abbrev pub invariant-loop-plan : goal.invariant-loop-plan
invariant-loop-plan l = (done out : ℕ → Bool) → TellsOfEach l.plans done out l.sides → NoneBelow (HasAhead l.journal l.leaf done out) (options_of l.plans) l.plan-index
