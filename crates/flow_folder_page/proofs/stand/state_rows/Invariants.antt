use Rattle.std.proofs.Common.{◌≡◌, map, take}
use Rattle.flow_page.specs.Shown.{shown}
use Rattle.flow_folder_page.specs.Stand.{state_row}
use Rattle.flow_folder_page.proofs.stand.state_rows.Given as goal

abbrev pub invariant-loop-state : goal.invariant-loop-state
invariant-loop-state l = map shown l.rows.items ≡ map (state_row l.cases) (take l.state-index l.states)
