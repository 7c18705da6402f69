use Rattle.std.proofs.Common.{◌≡◌, ◌<◌, ℕ, false}
use Rattle.flow_desk.specs.Report.{has_line}
use Rattle.flow_desk.proofs.report.line_end.Given as goal

abbrev pub invariant-loop-place : goal.invariant-loop-place
invariant-loop-place l = (earlier : ℕ) → earlier < l.place → has_line l.text l.word earlier ≡ false
