use Rattle.std.proofs.Common.{take}
use Rattle.std.specs.List.{flat_map}
use Rattle.flow_view.specs.Arrows.{arrows_between, followers}
use Rattle.flow_view.specs.Told.{Adds}
use Rattle.flow_view.proofs.arrows.Arrows.put_order.Given as goal

abbrev pub invariant-loop-place : goal.invariant-loop-place
invariant-loop-place l = Adds (flat_map (arrows_between l.tree.labels l.rule) (followers (take l.place l.events))) l.initial.self l.self
