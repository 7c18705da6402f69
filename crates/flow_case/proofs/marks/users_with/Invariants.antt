use Rattle.std.proofs.Common.{map, take}
use Rattle.flow_case.specs.Members.{said}
use Rattle.flow_case.specs.RulesOf.{HaveRight}
use Rattle.flow_case.proofs.marks.users_with.Given as goal

abbrev pub invariant-loop-member : goal.invariant-loop-member
invariant-loop-member l = HaveRight l.named l.users (map said (take l.member-index l.members)) l.marks.items
