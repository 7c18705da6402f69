use Rattle.std.proofs.Common.{◌≡◌, ◌++◌, length, map}
use Rattle.flow_reader.specs.Symbols.{symbols_of}
use Rattle.flow_policy_lint.specs.declared.heads.Reading.TheVariants.{Begins}
use Rattle.flow_policy_lint.specs.Heads.{said, heads_from}
use Rattle.flow_policy_lint.proofs.HeadSteps.{Left}
use Rattle.flow_policy_lint.proofs.heads.heads_in.Given as goal

abbrev pub invariant-loop-token : goal.invariant-loop-token
invariant-loop-token l = Left l.text l.rest × (heads_from Begins (symbols_of l.text l.tokens) ≡ map said l.found.items ++ heads_from l.reading (symbols_of l.text l.rest))

abbrev pub decreases-loop-token : goal.decreases-loop-token
decreases-loop-token l = length l.rest
