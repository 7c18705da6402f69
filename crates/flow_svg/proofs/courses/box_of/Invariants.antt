use Rattle.std.proofs.Common.{◌≡◌, drop}
use Rattle.flow_svg.specs.Courses.{box_of}
use Rattle.flow_svg.proofs.courses.box_of.Given as goal

abbrev pub invariant-loop-shape : goal.invariant-loop-shape
invariant-loop-shape l = box_of l.shapes l.leaf ≡ box_of (drop l.shape-index l.shapes) l.leaf
