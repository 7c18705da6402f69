use Rattle.flow_staff.specs.Desk.{desk_of}
use Rattle.std.proofs.Common.{take}
use Rattle.flow_roles.proofs.TieLemmas.{NoneIs, IsElsewhere}
use Rattle.flow_staff.proofs.duties.bound_by.Given as goal

abbrev pub invariant-loop-bound : goal.invariant-loop-bound
invariant-loop-bound l = NoneIs (IsElsewhere (desk_of l.core l.policy) l.by l.event) (take l.bound-index l.ties)
