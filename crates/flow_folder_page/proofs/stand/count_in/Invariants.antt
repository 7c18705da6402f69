use Rattle.std.proofs.Common.{◌≡◌, ◌+◌, ◌≤◌, drop}
use Rattle.flow_folder_page.specs.Stand.{count_in}
use Rattle.flow_folder_page.proofs.stand.count_in.Given as goal

abbrev pub invariant-loop-case : goal.invariant-loop-case
invariant-loop-case l = (l.count ≤ l.case-index) × (l.count + count_in l.state (drop l.case-index l.cases) ≡ count_in l.state l.cases)
