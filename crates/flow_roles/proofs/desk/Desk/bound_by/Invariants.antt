use Rattle.std.proofs.Common.{take}
use Rattle.flow_roles.proofs.TieLemmas.{NoneIs, IsElsewhere}
use Rattle.flow_roles.proofs.desk.Desk.bound_by.Given as goal

abbrev pub invariant-loop-bound : goal.invariant-loop-bound
invariant-loop-bound l = NoneIs (IsElsewhere l.self l.by l.event) (take l.bound-index l.ties)
