use Rattle.std.proofs.Common.{◌≡◌, ◌++◌, take}
use Rattle.std.specs.List.{flat_map}
use Rattle.flow_writer.specs.Json.{behind_comma}
use Rattle.flow_writer.proofs.writer.Writer.more_numbers.Given as goal

abbrev pub invariant-loop-number : goal.invariant-loop-number
invariant-loop-number l = l.self.text.items ≡ l.initial.self.text.items ++ flat_map behind_comma (take l.number-index l.numbers)
