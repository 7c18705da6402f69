use Rattle.std.proofs.Common.{◌≡◌, ◌++◌, drop}
use Rattle.flow_folder_page.specs.Cells.{listed}
use Rattle.flow_folder_page.proofs.cells.push_all_listed.Given as goal

abbrev pub invariant-loop-place : goal.invariant-loop-place
invariant-loop-place l = l.text.items ++ listed l.place (drop l.place l.texts) ≡ l.initial.text.items ++ listed 0 l.texts
