use Rattle.std.proofs.Common.{◌≡◌, map, take}
use Rattle.flow_form.specs.Script.{declared}
use Rattle.flow_form.specs.Names.{event_names}
use Rattle.flow_expand.specs.Numbers.{notes_of}
use Rattle.flow_expand.proofs.events.Events.new.Given as goal

abbrev pub invariant-loop-decl : goal.invariant-loop-decl
invariant-loop-decl l = record {
  names : l.names ≡ event_names (map declared (take l.decl-index l.decls));
  notes : l.notes.items ≡ notes_of (map declared (take l.decl-index l.decls));
}
