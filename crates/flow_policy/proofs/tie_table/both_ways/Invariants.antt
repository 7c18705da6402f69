use Rattle.flow_policy.specs.Tables.{AreBothWays}
use Rattle.flow_policy.proofs.tie_table.both_ways.Given as goal

abbrev pub invariant-loop-place : goal.invariant-loop-place
invariant-loop-place l = AreBothWays l.pairs l.place l.rows.items
