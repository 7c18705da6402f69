use Rattle.std.proofs.Common.{◌<◌, length, get_or, arith}
use Rattle.flow_model.specs.declared.limits.TheConstants.{MOST_LEAVES}
use Rattle.flow_model.proofs.Lists.{each_member}
use Rattle.flow_plan.proofs.PlaceLemmas.{read_member}
use Rattle.flow_residual.specs.Remaining.{banned}
use Rattle.flow_residual.specs.View.{pairs_of_bans}
use Rattle.flow_residual.proofs.SetLemmas.{set_more, banned_at, length-banned}
use Rattle.flow_residual.proofs.sets.set_of_bans.Goals as goal

pub insert-requires : goal.insert-requires
insert-requires c =
    let bans = c.args.bans.now in
    let i = c.loop-ban.ban-index in
    let inside : i < length (banned (pairs_of_bans bans)) = omega (arith, length-banned bans, c.loop-ban-test.true) in
    let small : get_or (banned (pairs_of_bans bans)) i 0 < MOST_LEAVES = each_member (λ n. n < MOST_LEAVES) (banned (pairs_of_bans bans)) c.requires (get_or (banned (pairs_of_bans bans)) i 0)
    (read_member (banned (pairs_of_bans bans)) i inside) in
    let same = banned_at bans i (record { index = 0; leaf = 0 }) c.loop-ban-test.true in
    omega (arith, small, same)

pub loop-ban-preserved : goal.loop-ban-preserved
loop-ban-preserved c =
    let bans = c.args.bans.now in
    let i = c.loop-ban.ban-index in
    let inside : i < length (banned (pairs_of_bans bans)) = omega (arith, length-banned bans, c.loop-ban-test.true) in
    let same = banned_at bans i (record { index = 0; leaf = 0 }) c.loop-ban-test.true in
    set_more c.loop-ban.set c.insert.new.self (banned (pairs_of_bans bans)) i inside (rw same c.insert.ensures) c.loop-ban.invariant
