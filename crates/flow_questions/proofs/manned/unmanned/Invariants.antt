use Rattle.flow_questions.proofs.StaffLemmas.{NoneOpenBelow}
use Rattle.flow_questions.proofs.manned.unmanned.Given as goal

abbrev pub invariant-loop-leaf : goal.invariant-loop-leaf
invariant-loop-leaf l = NoneOpenBelow l.run.desk.run l.event l.leaf
