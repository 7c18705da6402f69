use Rattle.std.proofs.Common.{◌+◌, ◌*◌}
use Rattle.flow_view.specs.Sketch.{sketch_of}
use Rattle.flow_chart.proofs.SketchSizes.{sketch_size}
use Rattle.flow_chart.proofs.chart.+charting.Given as goal

abbrev pub decreases-push_scene : goal.decreases-push_scene
decreases-push_scene l = 2 * sketch_size (sketch_of l.scene.now)

abbrev pub decreases-push_row : goal.decreases-push_row
decreases-push_row l = 2 * (sketch_size (sketch_of l.left.now) + sketch_size (sketch_of l.right.now)) + 1

abbrev pub decreases-push_fork : goal.decreases-push_fork
decreases-push_fork l = 2 * (sketch_size (sketch_of l.above.now) + sketch_size (sketch_of l.under.now)) + 1

abbrev pub decreases-push_framed : goal.decreases-push_framed
decreases-push_framed l = 2 * sketch_size (sketch_of l.part.now) + 1
