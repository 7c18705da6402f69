use Rattle.std.proofs.Common.{◌≡◌, ◌++◌, take}
use Rattle.std.specs.List.{flat_map}
use Rattle.flow_writer.specs.Json.{spelled}
use Rattle.flow_writer.proofs.writer.Writer.all_spelled.Given as goal

abbrev pub invariant-loop-byte : goal.invariant-loop-byte
invariant-loop-byte l = l.self.text.items ≡ l.initial.self.text.items ++ flat_map spelled (take l.byte-index l.bytes)
