use Rattle.std.proofs.Common.{◌≡◌, ◌++◌, drop}
use Rattle.flow_findings.specs.Auditing.{found_lines}
use Rattle.flow_findings.proofs.audit.print_findings.Given as goal

abbrev pub invariant-loop-number : goal.invariant-loop-number
invariant-loop-number l = l.lines.items ++ found_lines l.number (drop l.number l.found) ≡ found_lines 0 l.found
