use Rattle.std.proofs.Common.{◌≡◌, ◌++◌, drop}
use Rattle.std.specs.List.{flat_map}
use Rattle.flow_svg.specs.Cuts.{shape_spans}
use Rattle.flow_svg.proofs.cuts.push_shapes_spans.Given as goal

abbrev pub invariant-loop-shape : goal.invariant-loop-shape
invariant-loop-shape l = l.spans.items ++ flat_map shape_spans (drop l.shape-index l.shapes) ≡ l.initial.spans.items ++ flat_map shape_spans l.shapes
