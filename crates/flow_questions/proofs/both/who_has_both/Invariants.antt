use Rattle.flow_questions.proofs.StaffLemmas.{NoneHasBothBelow}
use Rattle.flow_questions.proofs.both.who_has_both.Given as goal

abbrev pub invariant-loop-user : goal.invariant-loop-user
invariant-loop-user l = NoneHasBothBelow l.run.desk l.one l.two l.user
