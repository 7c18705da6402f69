use Rattle.std.proofs.Common.{◌≡◌, map, take}
use Rattle.flow_plan.specs.declared.part_row.PartRow.{PartRow}
use Rattle.flow_plan.proofs.table.spans_of.Given as goal

abbrev pub invariant-loop-part : goal.invariant-loop-part
invariant-loop-part g l = l.spans.items ≡ map (λ (row : PartRow g.row.W). row.span) (take l.part-index l.parts)
