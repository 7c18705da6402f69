use Rattle.std.proofs.Common.{◌≡◌, map, take}
use Rattle.flow_page.specs.Shown.{shown}
use Rattle.flow_folder_page.specs.All.{case_row}
use Rattle.flow_folder_page.proofs.all.case_rows.Given as goal

abbrev pub invariant-loop-case : goal.invariant-loop-case
invariant-loop-case l = map shown l.rows.items ≡ map case_row (take l.case-index l.cases)
