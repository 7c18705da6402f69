use Rattle.std.proofs.Common.{◌≡◌, ◌≤◌}
use Rattle.flow_plan.specs.Passed.{ArePassed}
use Rattle.flow_plan.proofs.passed.Passed.up_to.Given as goal

abbrev pub invariant-loop-place : goal.invariant-loop-place
invariant-loop-place g l = record {
  at : l.passed.place ≡ l.place;
  before : l.place ≤ l.end;
  passed : ArePassed l.leaves l.sides l.asked l.initial.passed → ArePassed l.leaves l.sides l.asked l.passed;
}
