use Rattle.std.proofs.Common.{◌≡◌, map, take}
use Rattle.flow_folder_page.specs.Lines.{open_shown, named_task}
use Rattle.flow_folder_page.proofs.lines.named_tasks.Given as goal

abbrev pub invariant-loop-task : goal.invariant-loop-task
invariant-loop-task l = map open_shown l.tasks.items ≡ map (named_task l.texts.users) (take l.task-index l.begin)
