use Rattle.std.proofs.Common.{◌≡◌, ◌++◌, take}
use Rattle.std.specs.List.{flat_map}
use Rattle.flow_folder_page.specs.Waits.{waits_of_task}
use Rattle.flow_folder_page.proofs.waits.push_waits_of_case.Given as goal

abbrev pub invariant-loop-ready : goal.invariant-loop-ready
invariant-loop-ready l = l.waits.items ≡ l.initial.waits.items ++ flat_map (waits_of_task l.case) (take l.ready-index l.begin)
