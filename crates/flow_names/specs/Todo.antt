-- What is to be done in a run.
use Rattle.std.specs.Prelude.{◌≡◌, ℕ, Some, MatchOption, map}
use Rattle.flow_model.specs.Lists.{Each}
use Rattle.flow_model.specs.Run.{IsCurrent}
use Rattle.flow_model.specs.Takers.{taker_of}
use Rattle.flow_model.specs.Verdict.{call_of, AreJust}
use Rattle.flow_core.specs.declared.next.Next.{Next}
use Rattle.flow_core.specs.declared.next.Next.TheVariants as next
use Rattle.flow_core.specs.Run.{Run, schema, now}
use Rattle.flow_core.specs.Next.{IsNext}
use Rattle.flow_core.specs.Holding.{IsTakeable, MayPost}
use Rattle.flow_names.specs.declared.todo.Todo.{Todo}
use Rattle.flow_names.specs.declared.todo.OutTask.{OutTask}
use Rattle.flow_names.specs.declared.todo.State.{State}
use Rattle.flow_names.specs.declared.todo.State.TheVariants.{Open, Waiting, Finished, Stuck, Committed}

-- the claim of a task that is out
abbrev pub number_of : OutTask → ℕ
number_of task = task.call.claim

-- its leaf, event and attempt are the claim's; and who took it, where a result may be posted
pub record IsOutTask (r : Run) (task : OutTask) : Type 0 where
  pub call : task.call ≡ call_of (schema r) (now r) (number_of task)
  pub holder : MatchOption task.holder (¬ (MayPost r (number_of task)))
      (λ by. MayPost r (number_of task) × (taker_of r.history (number_of task) ≡ Some by))

-- how a run stands, by what it can do next
abbrev pub state_of : Next → State
state_of (next.Act leaf) = Open
state_of (next.Wait claim) = Waiting
state_of next.Finished = Finished
state_of (next.Stuck leaf) = Stuck
state_of next.Ended = Committed

abbrev pub IsState : Run → State → Type 0
IsState r state = (can : Next) × IsNext r can × (state ≡ state_of can)

pub record IsTodo (r : Run) (todo : Todo) : Type 0 where
  -- just the leaves on which claims may be given now
  pub begin : AreJust (IsTakeable r) todo.begin.items
  -- just the claims that are out, each with its task
  pub claims : AreJust (IsCurrent (now r)) (map number_of todo.out.items)
  pub tasks : Each (IsOutTask r) todo.out.items
  pub state : IsState r todo.state
