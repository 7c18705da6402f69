use Rattle.std.proofs.Common.{take}
use Rattle.flow_roles.proofs.TieLemmas.{NoneIs, IsHad}
use Rattle.flow_roles.proofs.desk.Desk.separated_by.Given as goal

abbrev pub invariant-loop-apart : goal.invariant-loop-apart
invariant-loop-apart l = NoneIs (IsHad l.self l.by l.event) (take l.apart-index l.ties)
