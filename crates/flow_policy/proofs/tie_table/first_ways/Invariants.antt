use Rattle.std.proofs.Common.{take}
use Rattle.flow_policy.specs.Tables.{AreFirstWays}
use Rattle.flow_policy.proofs.tie_table.first_ways.Given as goal

abbrev pub invariant-loop-row : goal.invariant-loop-row
invariant-loop-row l = AreFirstWays (take l.row-index l.rows) l.ties.items
