use Rattle.std.proofs.Common.{◌≡◌, length, map}
use Rattle.flow_case.specs.declared.kind.RuleStage.TheVariants.{WordNeeded}
use Rattle.flow_case.specs.Reading.{and_then, read_from}
use Rattle.flow_case.specs.Givens.{said}
use Rattle.flow_case.proofs.TokenSteps.{Left}
use Rattle.flow_case.proofs.given.read_rules.Given as goal

abbrev pub invariant-loop-token : goal.invariant-loop-token
invariant-loop-token l = Left l.text l.rest × (read_from l.text WordNeeded l.tokens ≡ and_then (map said l.given.items) (read_from l.text l.stage l.rest))

abbrev pub decreases-loop-token : goal.decreases-loop-token
decreases-loop-token l = length l.rest
