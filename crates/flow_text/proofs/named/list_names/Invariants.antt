use Rattle.std.proofs.Common.{take, map}
use Rattle.flow_grammar.specs.Roles.{in_rule}
use Rattle.flow_text.specs.Named.{Adds}
use Rattle.flow_text.proofs.named.list_names.Given as goal

abbrev pub invariant-loop-name : goal.invariant-loop-name
invariant-loop-name l = Adds l.fn.list.items l.list.items (map in_rule (take l.name-index l.names))
