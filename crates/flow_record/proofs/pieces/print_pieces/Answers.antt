use Rattle.std.proofs.Common.{[]}
use Rattle.flow_record.proofs.PieceLemmas.{flat_more, flat_all}
use Rattle.flow_record.proofs.pieces.print_pieces.Goals as goal

pub loop-piece-preserved : goal.loop-piece-preserved
loop-piece-preserved c =
    flat_more (λ piece. piece.now) c.args.pieces.now c.loop-piece.piece-index _ [] c.loop-piece.text.items c.extend_from_slice.new.self.items
    c.loop-piece-test.true c.loop-piece.invariant c.in_ok-extend_from_slice.ensures.items

pub returns : goal.returns
returns c = flat_all (λ piece. piece.now) c.args.pieces.now c.loop-piece.piece-index [] c.loop-piece.text.items c.loop-piece-test.false c.loop-piece.invariant
