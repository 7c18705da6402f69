-- The arrows that were told so far.
use Rattle.std.specs.Prelude.{◌≡◌, List, ◌++◌, length, take, nat_lt}
use Rattle.flow_view.specs.declared.arrow.Arrow.{Arrow}
use Rattle.flow_view.specs.declared.arrows.Arrows.{Arrows}
use Rattle.flow_view.specs.declared.size.TheConstants.{MOST_ARROWS}

-- they are the first of these
pub record AreTold (arrows : Arrows) (all : List Arrow) : Type 0 where
  pub list : arrows.list.items ≡ take MOST_ARROWS all
  pub left_out : arrows.left_out ≡ nat_lt MOST_ARROWS (length all)

-- those came behind others
abbrev pub Adds : List Arrow → Arrows → Arrows → Type 0
Adds more old new = (all : List Arrow) → AreTold old all → AreTold new (all ++ more)
