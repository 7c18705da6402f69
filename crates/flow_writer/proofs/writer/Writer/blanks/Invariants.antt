use Rattle.std.proofs.Common.{◌≡◌, ◌++◌}
use Rattle.flow_writer.specs.Text.{blanks}
use Rattle.flow_writer.proofs.writer.Writer.blanks.Given as goal

abbrev pub invariant-loop : goal.invariant-loop
invariant-loop l = l.self.text.items ≡ l.initial.self.text.items ++ blanks l.counter
