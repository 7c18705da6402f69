use Rattle.std.proofs.Common.{◌≡◌, map, take}
use Rattle.flow_folder_page.specs.All.{open_task}
use Rattle.flow_folder_page.proofs.all.open_tasks.Given as goal

abbrev pub invariant-loop-ready : goal.invariant-loop-ready
invariant-loop-ready l = l.tasks.items ≡ map open_task (take l.ready-index l.begin)
