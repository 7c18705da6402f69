use Rattle.std.proofs.Common.{◌≡◌, take}
use Rattle.flow_rules.specs.EventLeaves.{leaf_in}
use Rattle.flow_rules.specs.Narrowed.{open_ways}
use Rattle.flow_rules.specs.WayLists.{ways_of_sets}
use Rattle.flow_rules.proofs.narrowed.list_open.Given as goal

abbrev pub invariant-loop-rule : goal.invariant-loop-rule
invariant-loop-rule l = ways_of_sets l.ways.items ≡ open_ways l.lane (leaf_in l.events) (take l.rule-index l.rules)
