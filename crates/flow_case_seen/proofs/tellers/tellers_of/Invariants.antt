use Rattle.std.proofs.Common.{◌≡◌, ◌++◌, map, length}
use Rattle.flow_trail.specs.Lines.{said_of}
use Rattle.flow_case_seen.specs.Tellers.{tale_in, makers}
use Rattle.flow_case_seen.proofs.tellers.tellers_of.Given as goal

abbrev pub invariant-loop-line : goal.invariant-loop-line
invariant-loop-line l = makers (map said_of l.lines) ≡ map tale_in l.found.items ++ makers (map said_of l.rest)

abbrev pub decreases-loop-line : goal.decreases-loop-line
decreases-loop-line l = length l.rest
