use Rattle.std.proofs.Common.{◌≡◌, ◌++◌, take}
use Rattle.std.specs.List.{flat_map}
use Rattle.flow_page.specs.Tables.{column_text}
use Rattle.flow_page.proofs.tables.push_columns.Given as goal

abbrev pub invariant-loop-head : goal.invariant-loop-head
invariant-loop-head l = l.text.items ≡ l.initial.text.items ++ flat_map column_text (take l.head-index l.heads)
