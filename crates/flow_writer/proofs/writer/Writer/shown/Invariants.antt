use Rattle.std.proofs.Common.{◌≡◌, ◌++◌, take}
use Rattle.flow_writer.specs.Text.{shown}
use Rattle.flow_writer.proofs.writer.Writer.shown.Given as goal

abbrev pub invariant-loop-byte : goal.invariant-loop-byte
invariant-loop-byte l = l.self.text.items ≡ l.initial.self.text.items ++ shown (take l.byte-index l.bytes)
