use Rattle.std.proofs.Common.{◌≡◌, ◌++◌, drop}
use Rattle.flow_export.specs.Value.{value_from}
use Rattle.flow_export.proofs.xml_value.push_value.Given as goal

abbrev pub invariant-loop-byte : goal.invariant-loop-byte
invariant-loop-byte l =
    l.text.items ++ value_from l.first l.second (drop l.byte-index l.value) ≡ l.initial.text.items ++ value_from 0 0 l.value
