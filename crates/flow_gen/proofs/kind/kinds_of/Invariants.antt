use Rattle.std.proofs.Common.{◌≡◌, ◌≤◌, ◌++◌, drop}
use Rattle.flow_gen.specs.Generated.{kinds}
use Rattle.flow_gen.proofs.kind.kinds_of.Given as goal

abbrev pub invariant-loop-draw : goal.invariant-loop-draw
invariant-loop-draw l = (l.choices ≤ l.draw-index) × (l.list.items ++ kinds l.choices (drop l.draw-index l.draws) ≡ kinds 0 l.draws)
