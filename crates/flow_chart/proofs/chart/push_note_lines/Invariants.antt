use Rattle.std.proofs.Common.{◌≡◌, ◌++◌, drop}
use Rattle.flow_chart.specs.Chart.{note_lines}
use Rattle.flow_chart.proofs.chart.push_note_lines.Given as goal

abbrev pub invariant-loop-number : goal.invariant-loop-number
invariant-loop-number l =
    l.text.items ++ note_lines l.format l.number (drop l.number l.rules) ≡ l.initial.text.items ++ note_lines l.format 0 l.rules
