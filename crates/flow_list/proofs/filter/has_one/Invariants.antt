use Rattle.std.proofs.Common.{take}
use Rattle.flow_list.specs.Filter.{SomeOut}
use Rattle.flow_list.proofs.filter.has_one.Given as goal

abbrev pub invariant-loop-task : goal.invariant-loop-task
invariant-loop-task l = ¬ (SomeOut l.user (take l.task-index l.tasks))
