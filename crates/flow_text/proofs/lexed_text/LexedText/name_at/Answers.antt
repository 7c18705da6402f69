use Rattle.std.proofs.Common.{ap, sym, ◌∙◌}
use Rattle.std.specs.Prelude.{option_map}
use Rattle.flow_text.specs.Parser.{name_in, bytes_now}
use Rattle.flow_text.proofs.ParserLemmas.{left_within, passed_over, counted_down}
use Rattle.flow_text.proofs.lexed_text.LexedText.name_at.Goals as goal

pub symbol_of-requires-clause-within : goal.symbol_of-requires-clause-within
symbol_of-requires-clause-within c =
    left_within _ c.self.inside.tokens.items c.args.number c.loop-token.left c.loop-token.rest.now c.in-Some.more.now c.in-Some.token.now c.in-Some.ensures.cases.0 c.loop-token.invariant

pub loop-token-preserved : goal.loop-token-preserved
loop-token-preserved c =
    passed_over _ c.self.inside.tokens.items c.args.number c.loop-token.left c.loop-token.rest.now c.in-Some.more.now c.in-Some.token.now c.in-Some.ensures.cases.0
    (ap name_in (sym c.symbol_of.ensures) ∙ sym c.name_in.ensures ∙ ap (option_map bytes_now) c.in_default-name_in.is) c.loop-token.invariant

pub loop-token-preserved-else-left-eq0 : goal.loop-token-preserved-else-left-eq0
loop-token-preserved-else-left-eq0 c =
    counted_down _ c.self.inside.tokens.items c.args.number c.loop-token.left c.loop-token.rest.now c.in-Some.more.now c.in-Some.token.now c.in-Some-name_in.name.now c.in-Some.ensures.cases.0
    (ap name_in (sym c.symbol_of.ensures) ∙ sym c.name_in.ensures ∙ ap (option_map bytes_now) c.in-Some-name_in.is) c.if-left-eq0.false c.loop-token.invariant
