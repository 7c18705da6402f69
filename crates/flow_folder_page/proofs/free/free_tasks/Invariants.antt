use Rattle.std.proofs.Common.{◌≡◌, take}
use Rattle.std.specs.List.{flat_map}
use Rattle.flow_folder_page.specs.Free.{free_task}
use Rattle.flow_folder_page.proofs.free.free_tasks.Given as goal

abbrev pub invariant-loop-ready : goal.invariant-loop-ready
invariant-loop-ready l = l.texts.items ≡ flat_map free_task (take l.ready-index l.begin)
