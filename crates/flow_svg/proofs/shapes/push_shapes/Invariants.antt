use Rattle.std.proofs.Common.{◌≡◌, ◌++◌, take}
use Rattle.flow_svg.specs.Shapes.{shape_lines}
use Rattle.flow_svg.proofs.shapes.push_shapes.Given as goal

abbrev pub invariant-loop-shape : goal.invariant-loop-shape
invariant-loop-shape l = l.text.items ≡ l.initial.text.items ++ shape_lines l.labels l.marks (take l.shape-index l.shapes)
