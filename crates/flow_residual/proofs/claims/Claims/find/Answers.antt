use Rattle.std.proofs.Common.{◌≡◌, ◌+◌, ◌-◌, None, MatchOption, length, ap, ◌∙◌, subst, arith, slice_get}
use Rattle.std.specs.Vec.{vec_capacity}
use Rattle.flow_model.specs.Run.{claim_at}
use Rattle.flow_residual.specs.Claimed.{Claimed, run_of, IsGivenAt}
use Rattle.flow_residual.proofs.Numbering.{claim_in, none_of_zero}
use Rattle.flow_residual.proofs.Counting.{found_claim}
use Rattle.flow_residual.proofs.claims.Claims.find.Goals as goal

pub returns-then-claim-eq0 : goal.returns-then-claim-eq0
returns-then-claim-eq0 c =
    let i = c.self.inside in
    subst (λ (v : Claimed). claim_at (run_of v) c.args.claim ≡ None) c.self.view_is
    (ap (claim_in i.given.items) c.if-claim-eq0.true ∙ none_of_zero i.given.items)

pub returns : goal.returns
returns c =
    let i = c.self.inside in
    let n : c.args.claim ≡ 1 + (c.args.claim - 1) = omega arith in
    subst (λ (v : Claimed). MatchOption c.at.result (claim_at (run_of v) c.args.claim ≡ None) (IsGivenAt v c.args.claim)) c.self.view_is
    (found_claim i.given.items i.epoch (vec_capacity i.given) (length i.last.items) c.self.invariant.kept.counted c.args.claim (c.args.claim - 1) n c.at.result
    (c.at.ensures ∙ ap (λ l. slice_get l (c.args.claim - 1)) c.deref.ensures.value))
