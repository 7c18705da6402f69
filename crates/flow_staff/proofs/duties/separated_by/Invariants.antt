use Rattle.flow_staff.specs.Desk.{desk_of}
use Rattle.std.proofs.Common.{take}
use Rattle.flow_roles.proofs.TieLemmas.{NoneIs, IsHad}
use Rattle.flow_staff.proofs.duties.separated_by.Given as goal

abbrev pub invariant-loop-apart : goal.invariant-loop-apart
invariant-loop-apart l = NoneIs (IsHad (desk_of l.core l.policy) l.by l.event) (take l.apart-index l.ties)
