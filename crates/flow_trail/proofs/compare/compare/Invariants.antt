use Rattle.std.proofs.Common.{map}
use Rattle.flow_trail.specs.Lines.{said_of}
use Rattle.flow_trail.specs.Due.{entered_of}
use Rattle.flow_trail.proofs.DueLemmas.{IsToldTo}
use Rattle.flow_trail.proofs.compare.compare.Given as goal

abbrev pub invariant-loop-index : goal.invariant-loop-index
invariant-loop-index l = IsToldTo (map said_of l.lines) (map entered_of l.due) l.index l.count
