use Rattle.std.proofs.Common.{◌≡◌, drop}
use Rattle.flow_stages.specs.Fitting.{taker_by}
use Rattle.flow_questions.proofs.run.taker_of.Given as goal

abbrev pub invariant-loop-one : goal.invariant-loop-one
invariant-loop-one l = taker_by l.takers l.event ≡ taker_by (drop l.one-index l.takers) l.event
