use Rattle.std.proofs.Common.{map, take}
use Rattle.flow_policy.specs.Mentions.{said_in}
use Rattle.flow_policy.specs.Numbering.{IsStaff}
use Rattle.flow_policy.proofs.staff.Staff.of.Given as goal

abbrev pub invariant-loop-mention : goal.invariant-loop-mention
invariant-loop-mention l = IsStaff (map said_in (take l.mention-index l.mentions)) l.staff
