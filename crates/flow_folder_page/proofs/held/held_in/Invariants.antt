use Rattle.std.proofs.Common.{◌≡◌, take}
use Rattle.std.specs.List.{flat_map}
use Rattle.flow_folder_page.specs.Held.{held_of_case}
use Rattle.flow_folder_page.proofs.held.held_in.Given as goal

abbrev pub invariant-loop-case : goal.invariant-loop-case
invariant-loop-case l = l.held.items ≡ flat_map held_of_case (take l.case-index l.cases)
