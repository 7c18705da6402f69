use Rattle.std.proofs.Common.{◌≡◌, ◌++◌, drop, map}
use Rattle.std.specs.Fmt.{decimal}
use Rattle.flow_desk.proofs.noted.count_notes.Given as goal

abbrev pub invariant-loop-count : goal.invariant-loop-count
invariant-loop-count l = l.notes.items ++ map decimal (drop l.count-index l.counts) ≡ map decimal l.counts
