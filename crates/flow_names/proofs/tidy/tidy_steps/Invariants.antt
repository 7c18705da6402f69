use Rattle.std.proofs.Common.{◌-◌, length}
use Rattle.flow_names.specs.Tidy.{AreTidy}
use Rattle.flow_names.proofs.tidy.tidy_steps.Given as goal

abbrev pub invariant-loop-step : goal.invariant-loop-step
invariant-loop-step g l = record {
  done : AreTidy (g.R.Asked.run l.initial.scout) l.by l.steps.items (g.R.Asked.run l.scout);
  can : g.R.Asked.can_be_asked l.scout;
}

abbrev pub decreases-loop-step : goal.decreases-loop-step
decreases-loop-step g l = (g.R.Asked.run l.scout).limit - length (g.R.Asked.run l.scout).history
