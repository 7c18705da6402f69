use Rattle.std.proofs.Common.{map, take}
use Rattle.std.specs.List.{flat_map}
use Rattle.flow_form.specs.Script.{declared}
use Rattle.flow_form.specs.Names.{event_name}
use Rattle.flow_policy.specs.Numbering.{IsEventTable}
use Rattle.flow_policy.proofs.event_table.EventTable.of.Given as goal

abbrev pub invariant-loop-decl : goal.invariant-loop-decl
invariant-loop-decl l = IsEventTable (flat_map event_name (map declared (take l.decl-index l.decls))) l.table
