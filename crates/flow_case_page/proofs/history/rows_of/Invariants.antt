use Rattle.std.proofs.Common.{◌≡◌, ◌++◌, drop, map}
use Rattle.flow_page.specs.Shown.{shown}
use Rattle.flow_case_page.specs.History.{rows_told}
use Rattle.flow_case_page.proofs.history.rows_of.Given as goal

abbrev pub invariant-loop-place : goal.invariant-loop-place
invariant-loop-place l =
    map shown l.rows.items ++ rows_told l.core l.tellings l.taken l.place (drop l.place l.core.history)
    ≡ rows_told l.core l.tellings l.taken 0 l.core.history
