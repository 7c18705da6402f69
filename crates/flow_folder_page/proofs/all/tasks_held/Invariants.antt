use Rattle.std.proofs.Common.{◌≡◌, map, take}
use Rattle.flow_folder_page.specs.All.{task_held}
use Rattle.flow_folder_page.proofs.all.tasks_held.Given as goal

abbrev pub invariant-loop-one : goal.invariant-loop-one
invariant-loop-one l = l.tasks.items ≡ map task_held (take l.one-index l.out)
