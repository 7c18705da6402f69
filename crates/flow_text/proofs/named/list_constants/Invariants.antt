use Rattle.std.proofs.Common.{◌≡◌, ◌++◌, drop}
use Rattle.flow_grammar.specs.Roles.{constant_roles}
use Rattle.flow_text.specs.Named.{roles_of}
use Rattle.flow_text.proofs.named.list_constants.Given as goal

abbrev pub invariant-loop-constant : goal.invariant-loop-constant
invariant-loop-constant l = roles_of l.list.items ++ constant_roles (drop l.constant-index l.constants) ≡ roles_of l.initial.list.items ++ constant_roles l.constants
