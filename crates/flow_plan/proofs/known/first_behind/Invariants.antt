use Rattle.std.proofs.Common.{◌-◌, ◌≤◌, length}
use Rattle.flow_plan.proofs.known.first_behind.Given as goal

abbrev pub invariant-loop-first : goal.invariant-loop-first
invariant-loop-first l = l.end ≤ length l.spans

abbrev pub decreases-loop-first : goal.decreases-loop-first
decreases-loop-first l = l.end - l.first
