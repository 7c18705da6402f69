-- A script whose goal stands in a layout.
use Rattle.std.specs.Prelude.{List}
use Rattle.flow_form.specs.Script.{Said}
use Rattle.flow_form.specs.Names.{event_names}
use Rattle.flow_expand.specs.declared.layout.Piece.{Piece}
use Rattle.flow_expand.specs.declared.layout.Root.{Root}
use Rattle.flow_expand.specs.Expansion.{Expansion}
use Rattle.flow_expand.specs.Layout.{IsPlaced}
use Rattle.flow_expand.specs.Refusals.{IsMeasured}

-- the piece at the root is the goal that is written, and nothing written is too large
pub record IsPrepared (s : Said) (layout : List Piece) (root : Root) : Type 0 where
  pub expansion : Expansion
  pub measured : IsMeasured s expansion
  pub placed : IsPlaced layout (event_names s.decls) expansion root.place
