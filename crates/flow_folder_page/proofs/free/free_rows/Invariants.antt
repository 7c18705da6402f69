use Rattle.std.proofs.Common.{◌≡◌, map, take}
use Rattle.std.specs.List.{flat_map}
use Rattle.flow_page.specs.Shown.{shown}
use Rattle.flow_folder_page.specs.Free.{free_row}
use Rattle.flow_folder_page.proofs.free.free_rows.Given as goal

abbrev pub invariant-loop-case : goal.invariant-loop-case
invariant-loop-case l = map shown l.rows.items ≡ flat_map free_row (take l.case-index l.cases)
