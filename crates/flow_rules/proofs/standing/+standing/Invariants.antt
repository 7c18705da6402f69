use Rattle.std.proofs.Common.{take}
use Rattle.flow_rules.specs.Standing.{Stands}
use Rattle.flow_rules.specs.WayLists.{ways_of_parts}
use Rattle.flow_rules.proofs.standing.+standing.Given as goal

abbrev pub invariant-parts_standing-loop-part : goal.invariant-parts_standing-loop-part
invariant-parts_standing-loop-part l = Stands l.standing l.lanes (λ leaf. ways_of_parts l.connective leaf (take l.part-index l.parts))
