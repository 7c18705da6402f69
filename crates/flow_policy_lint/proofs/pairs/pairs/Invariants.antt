use Rattle.flow_policy_lint.specs.Findings.{ArePairs}
use Rattle.flow_policy_lint.proofs.pairs.pairs.Given as goal

abbrev pub invariant-loop-one : goal.invariant-loop-one
invariant-loop-one g l = ArePairs (g.Q.PairQuestion.is_so l.question) l.one l.count l.found.items
