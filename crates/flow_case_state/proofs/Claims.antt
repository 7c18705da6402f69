-- A claim that is out.
use Rattle.std.proofs.Common.{◌≡◌, ℕ, []}
use Rattle.flow_model.specs.Run.{current_claims, IsCurrent}
use Rattle.flow_core.specs.Run.{Run, now}
use Rattle.flow_core.specs.Answers.{IsLeast}
use Rattle.flow_core.proofs.SingleLemmas.{none_out}

pub claim_out : (r : Run) (claim : ℕ) → IsLeast (IsCurrent (now r)) claim → current_claims (now r) ≡ [] → ⊥
claim_out r claim least none = none_out (now r) claim none least
