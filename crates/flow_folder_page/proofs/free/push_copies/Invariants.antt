use Rattle.std.proofs.Common.{◌≡◌, ◌++◌, take}
use Rattle.flow_folder_page.proofs.free.push_copies.Given as goal

abbrev pub invariant-loop-one : goal.invariant-loop-one
invariant-loop-one l = l.texts.items ≡ l.initial.texts.items ++ take l.one-index l.more
