use Rattle.std.proofs.Common.{◌≡◌, ◌++◌, drop}
use Rattle.flow_folder_page.specs.Waits.{cases_for}
use Rattle.flow_folder_page.proofs.waits.cases_for.Given as goal

abbrev pub invariant-loop-wait : goal.invariant-loop-wait
invariant-loop-wait l = l.cases.items ++ cases_for l.user l.task (drop l.wait-index l.waits) ≡ cases_for l.user l.task l.waits
