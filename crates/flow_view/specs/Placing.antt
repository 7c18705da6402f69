-- Where a part can be placed.
use Rattle.std.specs.Prelude.{◌+◌, ◌≤◌}
use Rattle.flow_view.specs.declared.span.Span.{Span}
use Rattle.flow_view.specs.declared.size.TheConstants.{MOST_PIXELS}
use Rattle.flow_view.specs.Shapes.{start}
use Rattle.flow_view.specs.Sizes.{width, half}
use Rattle.flow_view.specs.Sketch.{Sketch}

-- there is room for it in the span
pub record HasRoom (s : Sketch) (span : Span) : Type 0 where
  pub wide : start span + width s ≤ span.right
  pub right : span.right ≤ MOST_PIXELS
  pub high : half s ≤ span.axis
  pub bottom : span.axis + half s ≤ MOST_PIXELS
