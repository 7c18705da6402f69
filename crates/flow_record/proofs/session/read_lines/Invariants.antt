use Rattle.std.proofs.Common.{◌≤◌, length}
use Rattle.flow_model.specs.declared.limits.TheConstants.{MOST_LINES}
use Rattle.flow_record.specs.Session.{session_by}
use Rattle.flow_record.proofs.SessionLemmas.{IsReadTo}
use Rattle.flow_record.proofs.session.read_lines.Given as goal

abbrev pub decreases-loop-rest : goal.decreases-loop-rest
decreases-loop-rest g l = length l.rest

abbrev pub invariant-loop-rest : goal.invariant-loop-rest
invariant-loop-rest g l = record {
  small : l.number ≤ MOST_LINES;
  read : IsReadTo g.C.Sentence.said (session_by g.C.Sentence.said l.text) l.read.items l.number l.rest;
}
