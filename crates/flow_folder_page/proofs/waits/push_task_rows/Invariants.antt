use Rattle.std.proofs.Common.{◌≡◌, ◌++◌, map, take}
use Rattle.flow_page.specs.Shown.{shown}
use Rattle.flow_folder_page.specs.Waits.{task_row}
use Rattle.flow_folder_page.proofs.waits.push_task_rows.Given as goal

abbrev pub invariant-loop-task : goal.invariant-loop-task
invariant-loop-task l = map shown l.rows.items ≡ map shown l.initial.rows.items ++ map (task_row l.waits l.user) (take l.task-index l.tasks)
