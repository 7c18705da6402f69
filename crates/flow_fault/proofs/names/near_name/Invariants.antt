use Rattle.std.proofs.Common.{◌≡◌, map, drop}
use Rattle.std.specs.List.{find}
use Rattle.flow_form.specs.Script.{declared}
use Rattle.flow_form.specs.Names.{declared_names}
use Rattle.flow_fault.specs.Near.{is_near}
use Rattle.flow_fault.proofs.names.near_name.Given as goal

abbrev pub invariant-loop-decl : goal.invariant-loop-decl
invariant-loop-decl l =
    find (is_near l.name) (declared_names (map declared l.decls)) ≡ find (is_near l.name) (declared_names (map declared (drop l.decl-index l.decls)))
