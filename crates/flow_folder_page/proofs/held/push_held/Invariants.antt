use Rattle.std.proofs.Common.{◌≡◌, ◌++◌, map, take}
use Rattle.flow_folder_page.specs.Held.{held_by}
use Rattle.flow_folder_page.proofs.held.push_held.Given as goal

abbrev pub invariant-loop-one : goal.invariant-loop-one
invariant-loop-one l = l.held.items ≡ l.initial.held.items ++ map (held_by l.case) (take l.one-index l.out)
