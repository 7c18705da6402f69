use Rattle.std.proofs.Common.{◌≡◌, map, take}
use Rattle.flow_export.specs.Rows.{said, json_lines, AreTexts}
use Rattle.flow_export.proofs.json_form.json_lines.Given as goal

abbrev pub invariant-loop-row : goal.invariant-loop-row
invariant-loop-row l = AreTexts l.rows → l.text.items ≡ json_lines (map said (take l.row-index l.rows))
