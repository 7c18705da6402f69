use Rattle.std.proofs.Common.{◌≡◌, ◌++◌, length}
use Rattle.flow_case.specs.declared.split.Side.TheVariants.{Begins}
use Rattle.flow_case.specs.Split.{rule_tokens}
use Rattle.flow_case.proofs.TokenSteps.{Left}
use Rattle.flow_case.proofs.split.rule_tokens.Given as goal

abbrev pub invariant-loop-token : goal.invariant-loop-token
invariant-loop-token l = Left l.text l.rest × (rule_tokens l.text Begins l.tokens ≡ l.cut.items ++ rule_tokens l.text l.side l.rest)

abbrev pub decreases-loop-token : goal.decreases-loop-token
decreases-loop-token l = length l.rest
