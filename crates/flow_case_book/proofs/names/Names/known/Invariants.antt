use Rattle.std.proofs.Common.{map, take}
use Rattle.std.specs.String.{string_bytes}
use Rattle.flow_model.specs.Lists.{◌∈◌}
use Rattle.flow_case_book.proofs.names.Names.known.Given as goal

abbrev pub invariant-loop-place : goal.invariant-loop-place
invariant-loop-place l = ¬ (l.name ∈ map string_bytes (take l.place l.self.names.items))
