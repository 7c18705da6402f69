use Rattle.std.proofs.Common.{take}
use Rattle.flow_model.specs.Ready.{DirectlyBefore}
use Rattle.flow_plan.specs.Planned.{pairs_of}
use Rattle.flow_plan.specs.Rows.{AreRowsOf}
use Rattle.flow_plan.proofs.rows.add_senders.Given as goal

abbrev pub invariant-loop-token : goal.invariant-loop-token
invariant-loop-token g l = AreRowsOf (DirectlyBefore l.goal.process (pairs_of (take l.token-index l.tokens))) l.goal.leaves l.rows
