use Rattle.std.proofs.Common.{◌≡◌, ◌++◌, take}
use Rattle.flow_export.specs.Literal.{quoted}
use Rattle.flow_export.proofs.sql_literal.push_quoted.Given as goal

abbrev pub invariant-loop-byte : goal.invariant-loop-byte
invariant-loop-byte l = l.text.items ≡ l.initial.text.items ++ quoted (take l.byte-index l.value)
