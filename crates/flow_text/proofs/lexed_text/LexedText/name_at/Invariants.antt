use Rattle.std.proofs.Common.{length}
use Rattle.flow_text.proofs.ParserLemmas.{IsLeft}
use Rattle.flow_text.proofs.lexed_text.LexedText.name_at.Given as goal

abbrev pub invariant-loop-token : goal.invariant-loop-token
invariant-loop-token l = IsLeft l.self-inside.text.now l.self-inside.tokens.items l.number l.left l.rest

abbrev pub decreases-loop-token : goal.decreases-loop-token
decreases-loop-token l = length l.rest
