use Rattle.flow_questions.proofs.StaffLemmas.{IsLeftToNoneBelow}
use Rattle.flow_questions.proofs.manned.is_for_nobody.Given as goal

abbrev pub invariant-loop-user : goal.invariant-loop-user
invariant-loop-user l = IsLeftToNoneBelow l.run.desk l.event l.user
