use Rattle.std.proofs.Common.{take}
use Rattle.flow_list.specs.Filter.{SomeBegin}
use Rattle.flow_list.proofs.filter.may_begin_one.Given as goal

abbrev pub invariant-loop-task : goal.invariant-loop-task
invariant-loop-task l = ¬ (SomeBegin l.texts.users l.user (take l.task-index l.tasks))
