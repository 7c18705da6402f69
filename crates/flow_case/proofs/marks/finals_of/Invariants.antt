use Rattle.std.proofs.Common.{map, take}
use Rattle.flow_case.specs.Givens.{said}
use Rattle.flow_case.specs.RulesOf.{AreFinals}
use Rattle.flow_case.proofs.marks.finals_of.Given as goal

abbrev pub invariant-loop-name : goal.invariant-loop-name
invariant-loop-name l = AreFinals l.workflow.events (map said (take l.name-index l.given)) l.marks.items
