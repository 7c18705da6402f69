use Rattle.std.proofs.Common.{◌≡◌, drop}
use Rattle.flow_gate.specs.TableGate.{outcome_in}
use Rattle.flow_gate.proofs.table_gate.TableGate.outcome.Given as goal

-- the rows passed are of other tasks
abbrev pub invariant-loop-row : goal.invariant-loop-row
invariant-loop-row l = outcome_in l.self l.leaf l.attempt ≡ outcome_in (drop l.row-index l.self) l.leaf l.attempt
