use Rattle.std.proofs.Common.{◌≡◌, map, take}
use Rattle.std.specs.List.{flat_map}
use Rattle.flow_page.specs.Shown.{shown}
use Rattle.flow_folder_page.specs.Stuck.{stuck_rows_of}
use Rattle.flow_folder_page.proofs.stuck.stuck_rows.Given as goal

abbrev pub invariant-loop-case : goal.invariant-loop-case
invariant-loop-case l = map shown l.rows.items ≡ flat_map stuck_rows_of (take l.case-index l.cases)
