use Rattle.std.proofs.Common.{take}
use Rattle.flow_model.specs.Lists.{◌∈◌}
use Rattle.flow_standing.specs.Standing.{AreFlags}
use Rattle.flow_standing.proofs.flags.flags_of.Given as goal

abbrev pub invariant-loop-member : goal.invariant-loop-member
invariant-loop-member l = AreFlags (λ leaf. leaf ∈ take l.member-index l.members) l.count l.flags.items
