use Rattle.std.proofs.Common.{[], ◌∷◌, take}
use Rattle.flow_model.specs.Lists.{each_with_each}
use Rattle.flow_view.specs.Arrows.{arrow}
use Rattle.flow_view.specs.Told.{Adds}
use Rattle.flow_view.proofs.arrows.Arrows.put_each.Given as goal

abbrev pub invariant-loop-leaf : goal.invariant-loop-leaf
invariant-loop-leaf l = Adds (each_with_each (arrow l.rule) (l.from ∷ []) (take l.leaf-index l.to)) l.initial.self l.self
