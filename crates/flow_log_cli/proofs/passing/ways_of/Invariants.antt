use Rattle.flow_log_cli.proofs.PassingLemmas.{AreFirstWays}
use Rattle.flow_log_cli.proofs.passing.ways_of.Given as goal

abbrev pub invariant-loop-place : goal.invariant-loop-place
invariant-loop-place l = AreFirstWays l.prepared.workflow l.budget l.sequences l.place l.ways.items
