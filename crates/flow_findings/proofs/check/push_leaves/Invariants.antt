use Rattle.std.proofs.Common.{◌≡◌, ◌++◌}
use Rattle.flow_findings.proofs.CheckLemmas.{rows}
use Rattle.flow_findings.proofs.check.push_leaves.Given as goal

abbrev pub invariant-loop-leaf : goal.invariant-loop-leaf
invariant-loop-leaf l = l.text.items ≡ l.initial.text.items ++ rows l.workflow l.leaf
