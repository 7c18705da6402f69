use Rattle.std.proofs.Common.{◌≡◌, map, take}
use Rattle.flow_page.specs.Shown.{shown}
use Rattle.flow_folder_page.specs.Held.{held_row}
use Rattle.flow_folder_page.proofs.held.held_rows.Given as goal

abbrev pub invariant-loop-one : goal.invariant-loop-one
invariant-loop-one l = map shown l.rows.items ≡ map held_row (take l.one-index l.held)
