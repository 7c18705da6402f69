use Rattle.std.proofs.Common.{◌≤◌, ◌-◌, length, max}
use Rattle.flow_log.specs.Case.{fitted_of}
use Rattle.flow_log.specs.Search.{IsLed, AreBefore, ArePassed, AreShort}
use Rattle.flow_log.proofs.points.Points.find.Given as goal

abbrev pub invariant-loop-place : goal.invariant-loop-place
invariant-loop-place g l = record {
  led : IsLed (fitted_of l.case) l.self.points.items;
  before : AreBefore l.self.points.items l.place 0;
  passed : ArePassed (fitted_of l.case) l.self.points.items l.place;
  short : AreShort (fitted_of l.case) l.self.points.items l.place l.furthest;
  few : length l.self.points.items ≤ max 1 l.budget;
}

abbrev pub decreases-loop-place : goal.decreases-loop-place
decreases-loop-place g l = max 1 l.budget - l.place
