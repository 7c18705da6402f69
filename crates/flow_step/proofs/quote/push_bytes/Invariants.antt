use Rattle.std.proofs.Common.{◌≡◌, ◌++◌, take}
use Rattle.std.specs.List.{flat_map}
use Rattle.flow_step.specs.Json.{quoted_byte}
use Rattle.flow_step.proofs.quote.push_bytes.Given as goal

abbrev pub invariant-loop-byte : goal.invariant-loop-byte
invariant-loop-byte l = l.printed.items ≡ l.initial.printed.items ++ flat_map quoted_byte (take l.byte-index l.bytes)
