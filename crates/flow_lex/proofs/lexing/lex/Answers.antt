use Rattle.std.proofs.Common.{refl, arith, subst, sym, ◌∙◌, ◌+◌}
use Rattle.flow_lex.specs.Tokens.{AreSpans}
use Rattle.flow_lex.proofs.Small.{small-front}
use Rattle.flow_lex.proofs.Cutting.{lexed-cut, spans-grow, place-cut, rest-shrinks, lexed-whole, lexed-refused}
use Rattle.flow_lex.proofs.lexing.lex.Goals as goal

pub loop-rest-preserved : goal.loop-rest-preserved
loop-rest-preserved c =
    let (so_far, spans, placed) = c.loop-rest.invariant in
    let piece = c.in-Some-piece_at.piece in
    let inside = c.in-Some-piece_at.ensures.inside in
    let grown = c.in_ok-add.ensures in
    let rest = c.behind-rest.ensures in (
      lexed-cut _ _ _ c.loop-rest.place _ c.loop-rest.rest.now _ piece (omega (arith, inside)) c.in-Some-piece_at.ensures.value grown refl rest so_far,
      subst (AreSpans 0 (c.loop-rest.place + (piece.more + 1))) (sym grown) (spans-grow 0 c.loop-rest.place _ piece spans),
      place-cut c.loop-rest.place piece.more c.loop-rest.rest.now _ _ inside rest placed,
    )

pub returns-clause-small : goal.returns-clause-small
returns-clause-small c = small-front _ _ _ c.loop-rest.invariant.0

pub loop-rest-smaller : goal.loop-rest-smaller
loop-rest-smaller c = rest-shrinks c.in-Some-piece_at.piece.more c.loop-rest.rest.now c.behind-rest.result.now c.in-Some-piece_at.ensures.inside c.behind-rest.ensures

pub returns-clause-tokens : goal.returns-clause-tokens
returns-clause-tokens c =
    lexed-whole _ c.loop-rest.tokens.items c.loop-rest.place c.loop-rest.rest.now (sym c.is_empty.ensures ∙ c.loop-rest-test.false) c.loop-rest.invariant.0

pub returns-in_default-piece_at-clause-refused : goal.returns-in_default-piece_at-clause-refused
returns-in_default-piece_at-clause-refused c = (
  c.in_default.ensures.none,
  lexed-refused _ c.loop-rest.tokens.items c.loop-rest.place c.loop-rest.rest.now (sym c.is_empty.ensures ∙ c.loop-rest-test.true)
      (sym c.piece_at.ensures.value ∙ c.in_default-piece_at.is) c.loop-rest.invariant.0,
)
