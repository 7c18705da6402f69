use Rattle.flow_model.specs.Lists.{Each}
use Rattle.flow_names.specs.Todo.{number_of}
use Rattle.flow_list.specs.Out.{claim_of, IsOutSince}
use Rattle.flow_list.proofs.ListSteps.{Mapped}
use Rattle.flow_list.proofs.taken.tasks_out.Given as goal

abbrev pub invariant-loop-task : goal.invariant-loop-task
invariant-loop-task l = Mapped claim_of number_of l.tasks l.task-index l.out.items × Each (IsOutSince l.core l.tellers) l.out.items
