use Rattle.std.proofs.Common.{take}
use Rattle.flow_rules.specs.Asked.{HasKept}
use Rattle.flow_rules.specs.EventLeaves.{leaf_in}
use Rattle.flow_rules.specs.WayLists.{ways_of_parts}
use Rattle.flow_rules.proofs.asked.+asking.Given as goal

abbrev pub invariant-parts_asked-loop-part : goal.invariant-parts_asked-loop-part
invariant-parts_asked-loop-part l =
    HasKept l.connective l.kept.items (ways_of_parts l.connective (leaf_in l.events) (take l.part-index l.parts))
