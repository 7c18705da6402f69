use Rattle.std.proofs.Common.{◌≡◌, [], drop}
use Rattle.flow_folder_page.specs.Waits.{users_in}
use Rattle.flow_folder_page.proofs.waits.users_in.Given as goal

abbrev pub invariant-loop-wait : goal.invariant-loop-wait
invariant-loop-wait l = users_in l.users.items (drop l.wait-index l.waits) ≡ users_in [] l.waits
