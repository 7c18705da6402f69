use Rattle.std.proofs.Common.{take}
use Rattle.flow_rules.specs.Standing.{Stands}
use Rattle.flow_rules.specs.WayLists.{ways_of_parts}
use Rattle.flow_rules.proofs.NarrowLemmas.{KeepsWays}
use Rattle.flow_rules.proofs.narrow.+narrowing.Given as goal

abbrev pub invariant-narrow_parts-loop-part : goal.invariant-narrow_parts-loop-part
invariant-narrow_parts-loop-part l =
    Stands l.standing l.lanes (λ leaf. ways_of_parts l.connective leaf (take l.part-index l.parts))
    × KeepsWays l.connective l.wanted l.lanes l.kept.items (take l.part-index l.parts)
