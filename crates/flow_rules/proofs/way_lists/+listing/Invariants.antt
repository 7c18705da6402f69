use Rattle.std.proofs.Common.{◌≡◌, ◌++◌, map, take}
use Rattle.flow_model.specs.declared.operators.Connective.TheVariants.{And, Or}
use Rattle.flow_rules.specs.Asked.{ways_asked, ways_asked_by}
use Rattle.flow_rules.specs.WayLists.{both_ways, ways_of_sets}
use Rattle.flow_rules.proofs.way_lists.+listing.Given as goal

abbrev pub invariant-extended-loop-way : goal.invariant-extended-loop-way
invariant-extended-loop-way l = ways_of_sets l.all.items ≡ both_ways (ways_of_sets l.yielded) (ways_asked l.rule)

abbrev pub invariant-extend_by_all-loop-part : goal.invariant-extend_by_all-loop-part
invariant-extend_by_all-loop-part l = ways_of_sets l.ways.items ≡ map (λ w. l.fn.way.pairs.items ++ w) (ways_asked_by And (take l.part-index l.parts))

abbrev pub invariant-extend_by_any-loop-part : goal.invariant-extend_by_any-loop-part
invariant-extend_by_any-loop-part l =
    ways_of_sets l.all.items ≡ ways_of_sets l.initial.all.items ++ map (λ w. l.way.pairs.items ++ w) (ways_asked_by Or (take l.part-index l.parts))
