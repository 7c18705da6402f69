use Rattle.std.proofs.Common.{◌≡◌, ◌≤◌, ◌<◌, ℕ, length, get_or, sym, ap, subst, arith}
use Rattle.std.proofs.lemmas.List.{get_or_default}
use Rattle.flow_plan.specs.Planned.{Planned}
use Rattle.flow_plan.specs.Options.{options_of, option_of}
use Rattle.flow_residual.specs.Track.{IsFront, IsNextRow}
use Rattle.flow_residual.proofs.OptionLemmas.{option_member, plan_at, length-options, turned_none, turned_by, turned_all}
use Rattle.flow_residual.proofs.TellingLemmas.{tell_of}
use Rattle.flow_residual.proofs.next_rows.look_all.Goals as goal

pub loop-place-init : goal.loop-place-init
loop-place-init g c =
    let counted : length c.args.rows.now ≡ length (options_of c.args.plans.now) = omega (arith, length-options c.args.plans.now) in
    turned_none (λ o row. Unit {0}) (IsNextRow c.args.journal.now) (options_of c.args.plans.now) c.args.rows.now (record { one_each = counted; each = λ k o x at is. tt })

pub look_at-requires : goal.look_at-requires
look_at-requires g c =
    let plans = c.args.plans.now in
    let fronts = c.args.fronts.now in
    let i = c.loop-place.place in
    let counted : length c.args.rows.now ≡ length (options_of plans) = omega (arith, length-options plans) in
    let within : i < length plans = omega (arith, c.loop-place-test.true, c.loop-place.auto.rows, counted, length-options plans) in
    let inside : i < length fronts = omega (arith, c.loop-place-test.true, counted, c.requires.fronts.one_each) in
    let s = c.index-plans-place.result in
    let front : ℕ = get_or fronts i 0 in
    let (bans, told) = c.requires.tell in (
      omega (arith, c.requires.wide),
      (
        tell_of (options_of plans) c.args.journal.now bans c.args.sides.now told (option_of s.plan) (option_member plans i s within c.index-plans-place.is)
            c.plan.result.now (ap option_of c.plan.ensures),
        (
          told.done,
          subst (λ (p : Planned). IsFront c.args.journal.now (option_of p) front) (sym c.plan.ensures)
              (c.requires.fronts.each i (option_of s.plan) front (plan_at plans i s within c.index-plans-place.is) (get_or_default fronts i 0 front inside)),
        ),
      ),
    )

pub loop-place-preserved : goal.loop-place-preserved
loop-place-preserved g c =
    let within : c.loop-place.place < length c.loop-place.rows = omega (arith, c.loop-place-test.true, c.loop-place.auto.rows) in
    turned_by (λ o row. Unit {0}) (IsNextRow c.args.journal.now) c.args.plans.now c.loop-place.place c.look_at.new.row c.look_at.new.row c.loop-place.rows c.index-plans-place.result c.plan.result.now
    within c.index-plans-place.is c.plan.ensures c.loop-place.invariant (λ _. c.look_at.ensures c.if-not-look_at.false)

pub returns : goal.returns
returns g c = λ _.
    let past : length c.loop-place.rows ≤ c.loop-place.place = omega (arith, c.loop-place-test.false, c.loop-place.auto.rows) in
    turned_all (λ o row. Unit {0}) (IsNextRow c.args.journal.now) (options_of c.args.plans.now) c.loop-place.place c.loop-place.rows past c.loop-place.invariant

pub bounds-plans-place : goal.bounds-plans-place
bounds-plans-place g c =
    let counted : length c.args.rows.now ≡ length c.args.plans.now = omega arith in
    subst (λ n. c.loop-place.place < n) counted c.loop-place-test.true
