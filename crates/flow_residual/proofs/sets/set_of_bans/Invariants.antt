use Rattle.std.proofs.Common.{take}
use Rattle.flow_residual.specs.Remaining.{banned}
use Rattle.flow_residual.specs.Telling.{IsSetOf}
use Rattle.flow_residual.specs.View.{pairs_of_bans}
use Rattle.flow_residual.proofs.sets.set_of_bans.Given as goal

abbrev pub invariant-loop-ban : goal.invariant-loop-ban
invariant-loop-ban l = IsSetOf (take l.ban-index (banned (pairs_of_bans l.bans))) l.set
