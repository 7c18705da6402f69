use Rattle.std.proofs.Common.{◌≡◌, take}
use Rattle.flow_case_page.specs.History.{leaves_given}
use Rattle.flow_case_page.proofs.history.leaves_given.Given as goal

abbrev pub invariant-loop-entry : goal.invariant-loop-entry
invariant-loop-entry l = l.leaves.items ≡ leaves_given (take l.entry-index l.history)
