use Rattle.std.proofs.Common.{◌+◌}
use Rattle.flow_view.specs.Sketch.{sketch_of}
use Rattle.flow_view.proofs.Rooms.{parts}
use Rattle.flow_view.proofs.placing.+placing.Given as goal

abbrev pub decreases-draw : goal.decreases-draw
decreases-draw l = parts (sketch_of l.scene.now)

abbrev pub decreases-draw_sides : goal.decreases-draw_sides
decreases-draw_sides l = parts (sketch_of l.above.now) + parts (sketch_of l.below.now) + 1
