use Rattle.std.proofs.Common.{◌≡◌, ◌<◌, MatchOption, None, length, slice_index, sym, subst, arith}
use Rattle.std.specs.Vec.{vec_capacity}
use Rattle.std.proofs.lemmas.List.{get_or_read}
use Rattle.flow_model.specs.Lists.{◌∈◌}
use Rattle.flow_model.specs.Run.{claim_at}
use Rattle.flow_model.proofs.Lists.{each_member}
use Rattle.flow_residual.specs.Claimed.{Claimed, run_of, IsGivenAt, IsLastOn}
use Rattle.flow_residual.specs.Fields.{events_of, IsLastOf}
use Rattle.flow_residual.proofs.Counting.{found_last}
use Rattle.flow_residual.proofs.claims.Claims.last_on.Goals as goal

pub returns-then-len-event : goal.returns-then-len-event
returns-then-len-event c =
    let i = c.self.inside in
    subst (λ (v : Claimed). ¬ (c.args.event ∈ v.events)) c.self.view_is
    (λ m. let below = each_member (λ event. event < length i.last.items) (events_of i.given.items) c.self.invariant.kept.known c.args.event m in
    omega (arith, i.last.ok.0))

pub returns : goal.returns
returns c =
    let i = c.self.inside in
    let within : c.args.event < length i.last.items = omega (arith, i.last.ok.0) in
    let is : c.index.result.now ≡ slice_index i.last.items c.args.event = get_or_read i.last.items c.args.event c.index.result.now within c.index.ensures 0 in
    let last = subst (IsLastOf (events_of i.given.items) c.args.event) (sym is) (c.self.invariant.kept.lasts c.args.event within) in
    let Found = λ (v : Claimed). MatchOption c.find.result (claim_at (run_of v) c.index.result.now ≡ None) (IsGivenAt v c.index.result.now) in
    subst (λ (v : Claimed). MatchOption c.find.result (¬ (c.args.event ∈ v.events)) (IsLastOn v c.args.event)) c.self.view_is
    (found_last i.given.items i.epoch (vec_capacity i.given) (length i.last.items) c.args.event c.index.result.now last c.find.result (subst Found (sym c.self.view_is) c.find.ensures))
