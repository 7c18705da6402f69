use Rattle.std.proofs.Common.{◌≡◌, ◌++◌, [], length, map}
use Rattle.flow_reader.specs.Symbols.{symbols_of}
use Rattle.flow_case.specs.declared.members.Reading.TheVariants.{Begins}
use Rattle.flow_case.specs.Members.{said, members_from}
use Rattle.flow_case.proofs.TokenSteps.{Left}
use Rattle.flow_case.proofs.members.members_of.Given as goal

abbrev pub invariant-loop-token : goal.invariant-loop-token
invariant-loop-token l = Left l.text l.rest × (members_from Begins [] (symbols_of l.text l.tokens) ≡ map said l.found.items ++ members_from l.reading l.role (symbols_of l.text l.rest))

abbrev pub decreases-loop-token : goal.decreases-loop-token
decreases-loop-token l = length l.rest
