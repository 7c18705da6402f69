use Rattle.std.proofs.Common.{◌≡◌, ◌++◌, drop}
use Rattle.flow_trail.specs.Spelling.{unspelt, unspelt_from, HasDigit}
use Rattle.flow_trail.proofs.spelling.unspelt.Given as goal

abbrev pub invariant-loop-byte : goal.invariant-loop-byte
invariant-loop-byte l = record {
  digit : HasDigit l.escape;
  so_far : unspelt l.text ≡ l.said.items ++ unspelt_from (drop l.byte-index l.text) l.escape;
}
