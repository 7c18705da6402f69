use Rattle.flow_core.specs.Run.{schema}
use Rattle.flow_standing.proofs.Outs.{AreOutUpTo}
use Rattle.flow_standing.proofs.claims.claims_out.Given as goal

abbrev pub invariant-loop-place : goal.invariant-loop-place
invariant-loop-place l = AreOutUpTo (schema l.core) l.core.history l.place l.outs.items
