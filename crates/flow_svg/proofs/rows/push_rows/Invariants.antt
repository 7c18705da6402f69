use Rattle.std.proofs.Common.{◌≡◌, ◌++◌, drop}
use Rattle.flow_svg.specs.Rows.{rows_text, rows_end}
use Rattle.flow_svg.proofs.rows.push_rows.Given as goal

abbrev pub invariant-loop-cut : goal.invariant-loop-cut
invariant-loop-cut l =
    (l.text.items ++ rows_text l.y l.high l.start (drop l.cut-index l.cuts) ≡ l.initial.text.items ++ rows_text 0 l.high 0 l.cuts)
    × (rows_end l.y l.high (drop l.cut-index l.cuts) ≡ rows_end 0 l.high l.cuts)
