use Rattle.std.proofs.Common.{◌≡◌, ◌++◌, map, drop}
use Rattle.flow_export.specs.Rows.{said}
use Rattle.flow_export.specs.Sql.{rows_values}
use Rattle.flow_export.specs.declared.sql_form.TheConstants.{INSERT_EVENTS}
use Rattle.flow_export.proofs.sql_form.push_rows.Given as goal

abbrev pub invariant-loop-row : goal.invariant-loop-row
invariant-loop-row l =
    l.text.items ++ rows_values l.lead (map said (drop l.row-index l.rows))
    ≡ l.initial.text.items ++ rows_values INSERT_EVENTS.now (map said l.rows)
