use Rattle.std.proofs.Common.{◌∙◌, ap, List, map, slice_get}
use Rattle.flow_model.specs.Run.{Claim}
use Rattle.flow_core.proofs.Steps.{sound_now}
use Rattle.flow_core.proofs.Tests.{claims_are}
use Rattle.flow_core.proofs.GivenClaims.{least_is}
use Rattle.flow_core.proofs.run.Core.least_claim.Goals as goal

pub returns : goal.returns
returns c =
    let i = c.self.inside in
    rw (← c.self.view_is) (least_is _ _ (sound_now i c.self.invariant) c.least.result
    (c.least.ensures ∙ ap (λ (cs : List Claim). slice_get (map (λ (claim : Claim). claim.number) cs) 0) (claims_are i.workflow _ i.claims c.self.invariant.kept.claims)))
