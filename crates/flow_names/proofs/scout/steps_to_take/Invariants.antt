use Rattle.std.proofs.Common.{◌-◌, length}
use Rattle.flow_names.specs.Steps.{AreSteps}
use Rattle.flow_names.proofs.scout.steps_to_take.Given as goal

abbrev pub invariant-loop-alloc : goal.invariant-loop-alloc
invariant-loop-alloc g l = record {
  done : AreSteps (g.R.Asked.run l.initial.scout) l.by l.leaf l.steps.items (g.R.Asked.run l.scout);
  can : g.R.Asked.can_be_asked l.scout;
}

abbrev pub decreases-loop-alloc : goal.decreases-loop-alloc
decreases-loop-alloc g l = (g.R.Asked.run l.scout).limit - length (g.R.Asked.run l.scout).history
