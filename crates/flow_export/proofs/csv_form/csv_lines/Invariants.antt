use Rattle.std.proofs.Common.{◌≡◌, map, take}
use Rattle.flow_export.specs.Rows.{said, csv_lines}
use Rattle.flow_export.proofs.csv_form.csv_lines.Given as goal

abbrev pub invariant-loop-row : goal.invariant-loop-row
invariant-loop-row l = l.text.items ≡ csv_lines (map said (take l.row-index l.rows))
