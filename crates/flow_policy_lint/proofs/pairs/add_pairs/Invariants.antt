use Rattle.flow_policy_lint.specs.Findings.{AddsPairs}
use Rattle.flow_policy_lint.proofs.pairs.add_pairs.Given as goal

abbrev pub invariant-loop-two : goal.invariant-loop-two
invariant-loop-two g l = AddsPairs (g.Q.PairQuestion.is_so l.question) l.one l.two l.initial.found.items l.found.items
