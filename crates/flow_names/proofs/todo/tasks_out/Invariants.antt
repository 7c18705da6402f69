use Rattle.std.proofs.Common.{map}
use Rattle.flow_model.specs.Lists.{Each}
use Rattle.flow_model.specs.Run.{IsCurrent}
use Rattle.flow_model.specs.Verdict.{AreJust}
use Rattle.flow_core.specs.Run.{now}
use Rattle.flow_core.proofs.RisingLists.{Below}
use Rattle.flow_names.specs.Todo.{number_of, IsOutTask}
use Rattle.flow_names.proofs.todo.tasks_out.Given as goal

abbrev pub invariant-loop-claim : goal.invariant-loop-claim
invariant-loop-claim l = record {
  claims : AreJust (Below (IsCurrent (now l.core)) l.claim) (map number_of l.out.items);
  tasks : Each (IsOutTask l.core) l.out.items;
}
