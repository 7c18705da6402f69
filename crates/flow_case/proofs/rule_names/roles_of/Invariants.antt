use Rattle.std.proofs.Common.{◌≡◌, map, take}
use Rattle.flow_case.specs.Members.{said}
use Rattle.flow_case.specs.RulesOf.{roles_in}
use Rattle.flow_case.proofs.rule_names.roles_of.Given as goal

abbrev pub invariant-loop-member : goal.invariant-loop-member
invariant-loop-member l = l.names ≡ roles_in (map said (take l.member-index l.members))
