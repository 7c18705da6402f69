use Rattle.std.proofs.Common.{map, length}
use Rattle.flow_trail.specs.Lines.{said_of}
use Rattle.flow_trail.specs.Read.{IsReadTo}
use Rattle.flow_trail.proofs.read.read_trail.Given as goal

abbrev pub decreases-loop-text : goal.decreases-loop-text
decreases-loop-text l = length l.rest

abbrev pub invariant-loop-text : goal.invariant-loop-text
invariant-loop-text l = IsReadTo l.fn.start l.bytes (map said_of l.lines.items) l.end l.rest
