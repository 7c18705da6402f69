use Rattle.std.proofs.Common.{◌≡◌, ◌+◌, zero, length}
use Rattle.flow_lex.specs.Tokens.{lexed, lexed_after, with_tokens, AreSpans}
use Rattle.flow_lex.proofs.lexing.lex.Given as goal

-- the tokens so far, and then those of the rest
abbrev pub invariant-loop-rest : goal.invariant-loop-rest
invariant-loop-rest l =
    (lexed l.fn.text ≡ with_tokens l.tokens.items (lexed_after l.place zero l.rest))
    × AreSpans 0 l.place l.tokens.items
    × (l.place + length l.rest ≡ length l.fn.text)

abbrev pub decreases-loop-rest : goal.decreases-loop-rest
decreases-loop-rest l = length l.rest
