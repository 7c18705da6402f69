use Rattle.std.proofs.Common.{◌≡◌, ◌++◌, take}
use Rattle.std.specs.List.{flat_map}
use Rattle.flow_writer.specs.Json.{spelled_in_text}
use Rattle.flow_writer.proofs.writer.Writer.all_spelled_in_text.Given as goal

abbrev pub invariant-loop-byte : goal.invariant-loop-byte
invariant-loop-byte l = l.self.text.items ≡ l.initial.self.text.items ++ flat_map spelled_in_text (take l.byte-index l.text)
