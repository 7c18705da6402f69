use Rattle.std.proofs.Common.{◌≡◌, ◌++◌, map, drop}
use Rattle.flow_export.specs.Rows.{said}
use Rattle.flow_export.specs.Xes.{events_text}
use Rattle.flow_export.proofs.xes_form.push_events.Given as goal

abbrev pub invariant-loop-row : goal.invariant-loop-row
invariant-loop-row l =
    l.text.items ++ events_text (map said (drop l.row-index l.rows)) ≡ l.initial.text.items ++ events_text (map said l.rows)
