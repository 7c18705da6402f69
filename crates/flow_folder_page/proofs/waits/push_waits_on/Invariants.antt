use Rattle.std.proofs.Common.{◌≡◌, ◌++◌, take}
use Rattle.flow_folder_page.specs.Waits.{waits_on}
use Rattle.flow_folder_page.proofs.waits.push_waits_on.Given as goal

abbrev pub invariant-loop-user : goal.invariant-loop-user
invariant-loop-user l = l.waits.items ≡ l.initial.waits.items ++ waits_on l.case l.task (take l.user-index l.users)
