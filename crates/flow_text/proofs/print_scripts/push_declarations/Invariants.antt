use Rattle.std.proofs.Common.{◌≡◌, ◌++◌, drop, map}
use Rattle.flow_form.specs.Script.{declared}
use Rattle.flow_text.specs.Printed.{declaration_lines}
use Rattle.flow_text.proofs.print_scripts.push_declarations.Given as goal

abbrev pub invariant-loop-decl : goal.invariant-loop-decl
invariant-loop-decl l =
    l.text.items ++ declaration_lines (map declared (drop l.decl-index l.decls)) ≡ l.initial.text.items ++ declaration_lines (map declared l.decls)
