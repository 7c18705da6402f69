use Rattle.std.proofs.Common.{◌≡◌, ◌+◌, length}
use Rattle.flow_record.specs.Lines.{pieces_of}
use Rattle.flow_record.proofs.HistoryLemmas.{IsReadTo}
use Rattle.flow_record.proofs.history.read_history.Given as goal

abbrev pub decreases-loop-rest : goal.decreases-loop-rest
decreases-loop-rest l = length l.rest

abbrev pub invariant-loop-rest : goal.invariant-loop-rest
invariant-loop-rest l = record {
  counted : l.number + length (pieces_of 10 l.rest) ≡ length (pieces_of 10 l.text);
  read : IsReadTo l.text l.read.items l.number l.rest;
}
