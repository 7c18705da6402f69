use Rattle.std.proofs.Common.{◌∙◌, ◌<◌, length, get_or, sym, subst}
use Rattle.flow_model.proofs.Lists.{each_member}
use Rattle.flow_plan.proofs.PlaceLemmas.{read_member}
use Rattle.flow_residual.proofs.Renewing.{renewed_one}
use Rattle.flow_residual.proofs.given.renew.Goals as goal

pub loop-place-preserved : goal.loop-place-preserved
loop-place-preserved c =
    renewed_one c.args.epoch c.loop-place.place-index c.args.places.now c.loop-place.given _ c.loop-place-test.true ∙ c.loop-place.invariant

pub bounds-given-place : goal.bounds-given-place
bounds-given-place c =
    let place = get_or c.args.places.now c.loop-place.place-index 0 in
    subst (λ n. place < n) (sym c.loop-place.auto.given)
    (each_member (λ place. place < length c.args.given.now) c.args.places.now c.requires place (read_member c.args.places.now c.loop-place.place-index c.loop-place-test.true))
