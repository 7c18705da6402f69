use Rattle.std.proofs.Common.{map, take}
use Rattle.flow_trail.specs.Due.{entered_of}
use Rattle.flow_case_book.specs.People.{names_in}
use Rattle.flow_case_book.specs.Due.{AreDue}
use Rattle.flow_case_book.proofs.dues.dues.Given as goal

abbrev pub invariant-loop-entry : goal.invariant-loop-entry
invariant-loop-entry l = AreDue (names_in l.names) l.core (take l.entry-index l.core.history) (map entered_of l.dues.items)
