use Rattle.std.proofs.Common.{◌≡◌, drop}
use Rattle.flow_record.proofs.NumberLemmas.{read_from}
use Rattle.flow_names.proofs.number.read_number.Given as goal

abbrev pub invariant-loop-byte : goal.invariant-loop-byte
invariant-loop-byte l = read_from 0 l.word ≡ read_from l.value (drop l.byte-index l.word)
