use Rattle.std.proofs.Common.{◌≡◌, refl, rules}
use Rattle.flow_policy.proofs.TableLemmas.{both_more, get_at}
use Rattle.flow_policy.proofs.tie_table.both_ways.Goals as goal

pub loop-place-preserved : goal.loop-place-preserved
loop-place-preserved c =
    let same : c.in-Ok.index ≡ c.loop-place.place = search rules in
    rw (c.in_ok-push-2.ensures.items, c.in_ok-push.ensures.items, same)
    (both_more c.args.pairs.now c.loop-place.place _ c.loop-place.rows.items (get_at c.args.pairs.now c.loop-place.place _ _ c.loop-place-test.true refl) c.loop-place.invariant)
