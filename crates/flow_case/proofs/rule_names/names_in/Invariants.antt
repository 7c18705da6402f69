use Rattle.std.proofs.Common.{◌≡◌, map, take}
use Rattle.flow_case.specs.Givens.{said}
use Rattle.flow_case.specs.RulesOf.{named_in}
use Rattle.flow_case.proofs.rule_names.names_in.Given as goal

abbrev pub invariant-loop-name : goal.invariant-loop-name
invariant-loop-name l = l.names ≡ named_in l.kind (map said (take l.name-index l.given))
