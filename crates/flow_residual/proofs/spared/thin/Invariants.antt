use Rattle.std.proofs.Common.{take}
use Rattle.flow_residual.specs.Spared.{AllStay}
use Rattle.flow_residual.proofs.SparedLemmas.{AreMoved}
use Rattle.flow_residual.proofs.spared.thin.Given as goal

abbrev pub invariant-loop-index : goal.invariant-loop-index
invariant-loop-index l = AreMoved l.residual l.fn.places l.fn.leaves l.index l.kept l.places l.leaves × AllStay l.residual (take l.kept l.leaves) l.beside
