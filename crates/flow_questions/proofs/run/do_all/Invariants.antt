use Rattle.std.proofs.Common.{◌≡◌, ℕ, take}
use Rattle.flow_core.specs.Answers.{next_claim}
use Rattle.flow_stages.specs.declared.question.Question.{Question}
use Rattle.flow_stages.specs.Fitting.{taker_by}
use Rattle.flow_questions.specs.Made.{AreDone}
use Rattle.flow_questions.specs.Questions.{IsFoundBy, IsFresh, IsRunOfSame}
use Rattle.flow_questions.proofs.run.do_all.Given as goal

abbrev pub invariant-loop-leaf : goal.invariant-loop-leaf
invariant-loop-leaf l = record {
  same : IsRunOfSame l.initial.run l.run;
  made : (question : Question) (event : ℕ) → IsFresh l.initial.run → IsFoundBy l.initial.run question l.leaves l.takers event →
      AreDone l.run (take l.leaf-index l.leaves) (taker_by l.takers) × (l.claim ≡ next_claim l.run.desk.run);
}
