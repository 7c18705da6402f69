use Rattle.std.proofs.Common.{◌≡◌, ◌++◌, drop, map, flat_map}
use Rattle.flow_form.specs.Script.{declared}
use Rattle.flow_grammar.specs.Roles.{declared_roles}
use Rattle.flow_text.specs.Named.{roles_of}
use Rattle.flow_text.proofs.named.list_decls.Given as goal

abbrev pub invariant-loop-decl : goal.invariant-loop-decl
invariant-loop-decl l = roles_of l.list.items ++ flat_map declared_roles (map declared (drop l.decl-index l.decls)) ≡ roles_of l.initial.list.items ++ flat_map declared_roles (map declared l.decls)
