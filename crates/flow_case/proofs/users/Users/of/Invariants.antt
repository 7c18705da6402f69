use Rattle.std.proofs.Common.{◌≡◌, map, take}
use Rattle.flow_case.specs.Members.{said}
use Rattle.flow_case.specs.RulesOf.{users_in}
use Rattle.flow_case.proofs.users.Users.of.Given as goal

abbrev pub invariant-loop-member : goal.invariant-loop-member
invariant-loop-member l = l.users ≡ users_in (map said (take l.member-index l.members))
