use Rattle.std.proofs.Common.{◌≡◌, [], drop}
use Rattle.flow_folder_page.specs.Waits.{tasks_for}
use Rattle.flow_folder_page.proofs.waits.tasks_for.Given as goal

abbrev pub invariant-loop-wait : goal.invariant-loop-wait
invariant-loop-wait l = tasks_for l.user l.tasks.items (drop l.wait-index l.waits) ≡ tasks_for l.user [] l.waits
