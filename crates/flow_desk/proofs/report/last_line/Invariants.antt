use Rattle.std.proofs.Common.{◌≡◌, ◌≤◌, ◌<◌, ℕ, length, false}
use Rattle.flow_desk.specs.Report.{has_line}
use Rattle.flow_desk.proofs.report.last_line.Given as goal

abbrev pub invariant-loop-place : goal.invariant-loop-place
invariant-loop-place l = record {
  within : l.place ≤ length l.text;
  none : (later : ℕ) → l.place ≤ later → later < length l.text → has_line l.text l.word later ≡ false;
}

abbrev pub decreases-loop-place : goal.decreases-loop-place
decreases-loop-place l = l.place
