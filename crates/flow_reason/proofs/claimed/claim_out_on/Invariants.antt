use Rattle.std.proofs.Common.{◌≡◌, ◌<◌, ℕ, get_or}
use Rattle.flow_model.specs.declared.history.Step.TheVariants.{Took}
use Rattle.flow_reason.specs.Claimed.{IsOutOn}
use Rattle.flow_reason.proofs.JournalLengths.{none}
use Rattle.flow_reason.proofs.claimed.claim_out_on.Given as goal

abbrev pub invariant-loop-entry : goal.invariant-loop-entry
invariant-loop-entry l = (k : ℕ) → k < l.entry → (claim : ℕ) → (get_or l.history k none).step ≡ Took claim l.leaf → IsOutOn l.core l.leaf claim → ⊥
