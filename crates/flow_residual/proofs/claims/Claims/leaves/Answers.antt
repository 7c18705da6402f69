use Rattle.std.proofs.Common.{sym, ◌∙◌}
use Rattle.flow_model.specs.Run.{Claim}
use Rattle.flow_residual.specs.Claimed.{run_of}
use Rattle.flow_residual.specs.Fields.{claimed_by}
use Rattle.flow_residual.proofs.Outstanding.{current_told}
use Rattle.flow_residual.proofs.claims.Claims.leaves.Goals as goal

pub returns : goal.returns
returns c =
    let i = c.self.inside in
    rw (← c.self.view_is) (c.deref.ensures.value ∙ c.self.invariant.kept.leaves_are ∙ sym (current_told (λ (claim : Claim). claim.leaf) (run_of (claimed_by i)) 0 i.given.items))
