use Rattle.std.proofs.Common.{◌≡◌, ◌++◌, take}
use Rattle.std.specs.Prelude.{codes}
use Rattle.flow_findings.specs.Refusing.{spaced}
use Rattle.flow_findings.proofs.expand_refusal.print_recursive.Given as goal

abbrev pub invariant-loop-name : goal.invariant-loop-name
invariant-loop-name l = l.line.items ≡ codes "refused: recursive" ++ spaced (take l.name-index l.chain)
