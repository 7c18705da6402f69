use Rattle.std.proofs.Common.{◌≡◌, map, take}
use Rattle.std.specs.List.{flat_map}
use Rattle.flow_page.specs.Shown.{shown}
use Rattle.flow_folder_page.specs.Waits.{user_rows}
use Rattle.flow_folder_page.proofs.waits.rows_of.Given as goal

abbrev pub invariant-loop-user : goal.invariant-loop-user
invariant-loop-user l = map shown l.rows.items ≡ flat_map (user_rows l.waits) (take l.user-index l.users)
