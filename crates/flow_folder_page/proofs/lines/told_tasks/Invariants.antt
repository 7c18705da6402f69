use Rattle.std.proofs.Common.{◌≡◌, map, take}
use Rattle.flow_folder_page.specs.Lines.{told_task}
use Rattle.flow_folder_page.proofs.lines.told_tasks.Given as goal

abbrev pub invariant-loop-task : goal.invariant-loop-task
invariant-loop-task l = l.tasks.items ≡ map told_task (take l.task-index l.out)
