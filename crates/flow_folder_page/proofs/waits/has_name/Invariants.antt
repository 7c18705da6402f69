use Rattle.std.proofs.Common.{◌≡◌, drop}
use Rattle.flow_folder_page.specs.Waits.{has_name}
use Rattle.flow_folder_page.proofs.waits.has_name.Given as goal

abbrev pub invariant-loop-one : goal.invariant-loop-one
invariant-loop-one l = has_name l.name l.names ≡ has_name l.name (drop l.one-index l.names)
