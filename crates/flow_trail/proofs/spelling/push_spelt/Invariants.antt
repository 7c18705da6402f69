use Rattle.std.proofs.Common.{◌≡◌, ◌++◌, take}
use Rattle.flow_trail.specs.Spelling.{spelt}
use Rattle.flow_trail.proofs.spelling.push_spelt.Given as goal

abbrev pub invariant-loop-byte : goal.invariant-loop-byte
invariant-loop-byte l = l.text.items ≡ l.initial.text.items ++ spelt (take l.byte-index l.said)
