use Rattle.flow_model.specs.Verdict.{AreJust}
use Rattle.flow_lint.specs.Finding.{IsOneOf}
use Rattle.flow_lint.proofs.question.those.Given as goal

abbrev pub invariant-loop-number : goal.invariant-loop-number
invariant-loop-number g l = AreJust (IsOneOf l.number (g.Q.Question.is_so l.question)) l.numbers.items
