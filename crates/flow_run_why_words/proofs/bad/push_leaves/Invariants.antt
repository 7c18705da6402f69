use Rattle.std.proofs.Common.{◌≡◌, ◌++◌, take}
use Rattle.std.specs.List.{flat_map}
use Rattle.flow_run_why_words.specs.Bad.{instead_line}
use Rattle.flow_run_why_words.proofs.bad.push_leaves.Given as goal

abbrev pub invariant-loop-leaf : goal.invariant-loop-leaf
invariant-loop-leaf l = l.writer.text.items ≡ l.initial.writer.text.items ++ flat_map (instead_line l.workflow) (take l.leaf-index l.leaves)
