use Rattle.flow_log_cli.specs.Noted.{AreSpelled}
use Rattle.flow_log_cli.proofs.vocabulary.note_spellings.Given as goal

abbrev pub invariant-loop-place : goal.invariant-loop-place
invariant-loop-place l = AreSpelled l.events l.place l.table.names l.table.numbers.items
