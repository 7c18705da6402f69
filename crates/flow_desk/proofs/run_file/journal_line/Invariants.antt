use Rattle.std.proofs.Common.{◌≤◌, ◌+◌, length}
use Rattle.flow_desk.proofs.run_file.journal_line.Given as goal

abbrev pub invariant-loop-noted : goal.invariant-loop-noted
invariant-loop-noted l = l.line + length l.rest ≤ length l.text

abbrev pub decreases-loop-noted : goal.decreases-loop-noted
decreases-loop-noted l = length l.rest
