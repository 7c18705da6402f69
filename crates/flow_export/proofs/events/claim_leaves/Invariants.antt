use Rattle.std.proofs.Common.{◌≡◌, take}
use Rattle.flow_standing.specs.Following.{leaves_given}
use Rattle.flow_export.proofs.events.claim_leaves.Given as goal

abbrev pub invariant-loop-entry : goal.invariant-loop-entry
invariant-loop-entry l = l.leaves.items ≡ leaves_given (take l.entry-index l.history)
