use Rattle.std.proofs.Common.{◌≡◌, ◌++◌, map, take}
use Rattle.flow_lint.specs.Finding.{finding}
use Rattle.flow_lint.proofs.finding.push_each.Given as goal

abbrev pub invariant-loop-number : goal.invariant-loop-number
invariant-loop-number l = l.found.items ≡ l.initial.found.items ++ map (finding l.kind) (take l.number-index l.numbers)
