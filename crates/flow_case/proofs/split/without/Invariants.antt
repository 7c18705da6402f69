use Rattle.std.proofs.Common.{◌≡◌, ◌++◌, length}
use Rattle.flow_lex.specs.Tokens.{AreSpans}
use Rattle.flow_case.specs.Split.{blanked}
use Rattle.flow_case.proofs.split.without.Given as goal

abbrev pub invariant-loop-token : goal.invariant-loop-token
invariant-loop-token l = AreSpans l.place (length l.text) l.rest × (length l.left.items ≡ l.place) × (blanked l.text 0 l.tokens ≡ l.left.items ++ blanked l.text l.place l.rest)

abbrev pub decreases-loop-token : goal.decreases-loop-token
decreases-loop-token l = length l.rest
