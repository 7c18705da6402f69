-- That lines are in order has one proof, so a type may keep it.
use mathlib.Core.Bool.{true, Bool-set}
use Rattle.std.specs.Prelude.{List, [], ◌∷◌}
use Rattle.std.specs.Coded.{×_prop, Unit-prop, le_prop}
use Rattle.flow_trail.specs.declared.line.TrailEnd.{TrailEnd}
use Rattle.flow_trail.specs.Lines.{Said, told, void, remark, CanFollow, end_behind, AreInOrder}

follow-prop : (e : TrailEnd) (said : Said) → IsProp (CanFollow e said)
follow-prop e (told at by entry task note) = le_prop
follow-prop e (void at) = ×_prop (Bool-set e.last_told true) (×_prop le_prop le_prop)
follow-prop e (remark about text entry by at) = Unit-prop

pub order-prop : (e : TrailEnd) (saying : List Said) → IsProp (AreInOrder e saying)
order-prop e [] = Unit-prop
order-prop e (said ∷ more) = ×_prop (follow-prop e said) (order-prop (end_behind e said) more)
