use Rattle.std.proofs.Common.{◌≡◌, ◌++◌, take}
use Rattle.flow_draw.specs.Escape.{quoted}
use Rattle.flow_draw.proofs.escape.push_quoted.Given as goal

abbrev pub invariant-loop-byte : goal.invariant-loop-byte
invariant-loop-byte l = l.text.items ≡ l.initial.text.items ++ quoted (take l.byte-index l.bytes)
