use Rattle.std.proofs.Common.{◌≡◌, ◌++◌, take}
use Rattle.flow_draw.specs.Escape.{escaped}
use Rattle.flow_draw.proofs.escape.push_escaped.Given as goal

abbrev pub invariant-loop-byte : goal.invariant-loop-byte
invariant-loop-byte l = l.text.items ≡ l.initial.text.items ++ escaped l.format (take l.byte-index l.bytes)
