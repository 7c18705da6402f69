use Rattle.std.proofs.Common.{◌≤◌, length}
use Rattle.flow_model.specs.declared.limits.TheConstants.{MOST_LINES}
use Rattle.flow_record.proofs.JournalLemmas.{IsReadTo}
use Rattle.flow_record.proofs.journal.read_journal.Given as goal

abbrev pub decreases-loop-rest : goal.decreases-loop-rest
decreases-loop-rest l = length l.rest

abbrev pub invariant-loop-rest : goal.invariant-loop-rest
invariant-loop-rest l = record {
  small : l.number ≤ MOST_LINES;
  read : IsReadTo l.workflow l.text l.reading.leaves.items l.reading.wrong l.number l.rest;
}
