use Rattle.std.proofs.Common.{◌≡◌, take}
use Rattle.flow_folder_page.specs.Lines.{names_of}
use Rattle.flow_folder_page.proofs.lines.names_of.Given as goal

abbrev pub invariant-loop-number : goal.invariant-loop-number
invariant-loop-number l = l.names.items ≡ names_of l.texts.users (take l.number-index l.numbers)
