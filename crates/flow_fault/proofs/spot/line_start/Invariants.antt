use Rattle.std.proofs.Common.{◌≢◌, ◌≤◌, length, drop}
use Rattle.flow_model.specs.Lists.{Each}
use Rattle.flow_fault.proofs.spot.line_start.Given as goal

abbrev pub invariant-loop-start : goal.invariant-loop-start
invariant-loop-start l = record {
  within : l.start ≤ length l.text;
  no_feed : Each (λ b. b ≢ 10) (drop l.start l.text);
}

abbrev pub decreases-loop-start : goal.decreases-loop-start
decreases-loop-start l = l.start
