use Rattle.std.proofs.Common.{◌≡◌, take}
use Rattle.std.specs.List.{flat_map}
use Rattle.flow_folder_page.specs.Waits.{waits_of_case}
use Rattle.flow_folder_page.proofs.waits.waits_of.Given as goal

abbrev pub invariant-loop-case : goal.invariant-loop-case
invariant-loop-case l = l.waits.items ≡ flat_map waits_of_case (take l.case-index l.cases)
