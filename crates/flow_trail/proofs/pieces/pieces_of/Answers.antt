use Rattle.flow_trail.proofs.ReadLemmas.{piece_more, last_piece, shorter}
use Rattle.flow_trail.proofs.pieces.pieces_of.Goals as goal

pub loop-piece-smaller : goal.loop-piece-smaller
loop-piece-smaller c = shorter 34 c.loop-piece.rest.now c.in-Some.piece.now c.in-Some.more.now c.in-Some.ensures

pub loop-piece-preserved : goal.loop-piece-preserved
loop-piece-preserved c = rw c.in_ok-push.ensures.items
    (piece_more (λ piece. piece.now) c.args.text.now c.loop-piece.rest.now c.in-Some.more.now c.loop-piece.pieces.items c.in-Some.piece c.loop-piece.invariant c.in-Some.ensures)

pub returns : goal.returns
returns c = rw c.in_ok-push-2.ensures.items
    (last_piece (λ piece. piece.now) c.args.text.now c.loop-piece.pieces.items c.loop-piece.rest c.loop-piece.invariant c.in_default.ensures)
