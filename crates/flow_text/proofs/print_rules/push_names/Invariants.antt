use Rattle.std.proofs.Common.{◌≡◌, ◌++◌, drop}
use Rattle.flow_text.specs.Printed.{names_text}
use Rattle.flow_text.proofs.print_rules.push_names.Given as goal

abbrev pub invariant-loop-name : goal.invariant-loop-name
invariant-loop-name l = l.text.items ++ names_text (drop l.name-index l.names) ≡ l.initial.text.items ++ names_text l.names
