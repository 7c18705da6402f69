use Rattle.std.proofs.Common.{◌<◌, ℕ}
use Rattle.flow_names.specs.Meaning.{IsOutOn}
use Rattle.flow_names.proofs.claims.claim_out.Given as goal

abbrev pub invariant-loop-claim : goal.invariant-loop-claim
invariant-loop-claim l = (n : ℕ) → n < l.claim → ¬ (IsOutOn l.core l.event l.said n)
