use Rattle.std.proofs.Common.{map, take}
use Rattle.flow_model.specs.Lists.{Each}
use Rattle.flow_case.specs.Givens.{said}
use Rattle.flow_case.specs.RulesOf.{IsKnownName}
use Rattle.flow_case.proofs.rule_names.check_names.Given as goal

abbrev pub invariant-loop-name : goal.invariant-loop-name
invariant-loop-name l = Each (IsKnownName l.workflow.events l.roles) (map said (take l.name-index l.given))
