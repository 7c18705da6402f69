use Rattle.std.proofs.Common.{◌≡◌, ◌++◌, map, length}
use Rattle.flow_record.specs.Lines.{pieces_of}
use Rattle.flow_trail.proofs.pieces.pieces_of.Given as goal

abbrev pub decreases-loop-piece : goal.decreases-loop-piece
decreases-loop-piece l = length l.rest

abbrev pub invariant-loop-piece : goal.invariant-loop-piece
invariant-loop-piece l = pieces_of 34 l.text ≡ map (λ piece. piece.now) l.pieces.items ++ pieces_of 34 l.rest
