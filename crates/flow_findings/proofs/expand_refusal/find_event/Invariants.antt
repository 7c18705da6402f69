use Rattle.std.proofs.Common.{◌≡◌, slice_get, map, drop}
use Rattle.flow_form.specs.Script.{declared}
use Rattle.flow_form.specs.Names.{event_names}
use Rattle.flow_findings.proofs.expand_refusal.find_event.Given as goal

abbrev pub invariant-loop-decl : goal.invariant-loop-decl
invariant-loop-decl l =
    slice_get (event_names (map declared l.decls)) l.number ≡ slice_get (event_names (map declared (drop l.decl-index l.decls))) l.before
