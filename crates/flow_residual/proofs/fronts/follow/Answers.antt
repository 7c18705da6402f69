use Rattle.std.proofs.Common.{◌≤◌, ◌<◌, length, ap, arith}
use Rattle.flow_plan.specs.Options.{options_of, option_of}
use Rattle.flow_residual.specs.Track.{IsFront, journal_after}
use Rattle.flow_residual.proofs.OptionLemmas.{option_member, turned_none, turned_by, turned_all}
use Rattle.flow_residual.proofs.TellingLemmas.{tell_of}
use Rattle.flow_residual.proofs.fronts.follow.Goals as goal

pub loop-place-init : goal.loop-place-init
loop-place-init c are = turned_none (IsFront c.args.journal.now) _ (options_of c.args.plans.now) c.args.fronts.now are

pub after-requires-clause-tell : goal.after-requires-clause-tell
after-requires-clause-tell c =
    let within : c.loop-place.place < length c.args.plans.now = omega (arith, c.loop-place-test.true, c.loop-place.auto.fronts, c.requires.one_each) in
    let s = c.index-plans-place.result in
    let (bans, told) = c.requires.tell in
    tell_of (options_of c.args.plans.now) c.args.journal.now bans c.args.sides.now told (option_of s.plan) (option_member c.args.plans.now c.loop-place.place s within c.index-plans-place.is)
    c.plan.result.now (ap option_of c.plan.ensures)

pub after-requires-clause-done : goal.after-requires-clause-done
after-requires-clause-done c = c.requires.tell.1.done

pub loop-place-preserved : goal.loop-place-preserved
loop-place-preserved c are =
    let journal = c.args.journal.now in
    let within : c.loop-place.place < length c.loop-place.fronts = omega (arith, c.loop-place-test.true, c.loop-place.auto.fronts) in
    turned_by (IsFront journal) (IsFront (journal_after c.args.change journal)) c.args.plans.now c.loop-place.place c.after.result
    0 c.loop-place.fronts c.index-plans-place.result c.plan.result.now within c.index-plans-place.is c.plan.ensures (c.loop-place.invariant are) c.after.ensures

pub returns : goal.returns
returns c are =
    let past : length c.loop-place.fronts ≤ c.loop-place.place = omega (arith, c.loop-place-test.false, c.loop-place.auto.fronts) in
    turned_all (IsFront c.args.journal.now) _ (options_of c.args.plans.now) c.loop-place.place c.loop-place.fronts past (c.loop-place.invariant are)
