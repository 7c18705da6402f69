use Rattle.std.proofs.Common.{◌≡◌, map, take}
use Rattle.flow_workflow.specs.Numbers.{event_number}
use Rattle.flow_expand.proofs.constraints.numbers_of.Given as goal

abbrev pub invariant-loop-name : goal.invariant-loop-name
invariant-loop-name l = l.found.items ≡ map (event_number l.workflow.events) (take l.name-index l.names)
