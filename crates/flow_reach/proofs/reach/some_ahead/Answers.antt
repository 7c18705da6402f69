use Rattle.std.proofs.Common.{◌≤◌, ◌↔◌, IsTrue, length, refl, sym, subst, arith}
use Rattle.flow_model.specs.Resolution.{ChoiceOption}
use Rattle.flow_model.proofs.Lists.{mem-slice_get}
use Rattle.flow_plan.specs.Courses.{IsCourse}
use Rattle.flow_plan.specs.Options.{options_of, option_of}
use Rattle.flow_plan.specs.Planned.{Planned}
use Rattle.flow_residual.specs.Telling.{IsOrderedOption}
use Rattle.flow_residual.proofs.OptionLemmas.{length-options, none_found, none_more, same_plan}
use Rattle.flow_trace.proofs.FrontLemmas.{plan_read, option_read}
use Rattle.flow_reach.specs.Reach.{HasAhead, TellsOf}
use Rattle.flow_reach.proofs.reach.some_ahead.Goals as goal

pub has_ahead-requires : goal.has_ahead-requires
has_ahead-requires c ordered =
    let s = c.plan-item.result in
    subst (λ (p : Planned). IsCourse p c.args.journal.now c.args.course.now) (sym c.plan.ensures)
    (c.requires s (plan_read c.args.plans.now c.loop-plan.plan-index s c.loop-plan-test.true c.plan-item.is) (subst (λ (p : Planned). IsOrderedOption (option_of p)) c.plan.ensures ordered))

pub returns-then-has_ahead : goal.returns-then-has_ahead
returns-then-has_ahead c = λ done out tell.
    let plans = c.args.plans.now in
    let s = c.plan-item.result in
    let i = c.loop-plan.plan-index in
    let o = option_of c.plan.result.now in
    let at = option_read plans i s c.plan.result.now c.loop-plan-test.true c.plan-item.is c.plan.ensures in
    let told = subst (λ (p : Planned). TellsOf p done out c.args.sides.now) (sym c.plan.ensures) (tell s (plan_read plans i s c.loop-plan-test.true c.plan-item.is)) in
    (λ _. (o, mem-slice_get (options_of plans) i o at, (c.has_ahead.ensures done out told).0 c.if-has_ahead.true), λ _. refl)

pub loop-plan-preserved : goal.loop-plan-preserved
loop-plan-preserved c = λ done out tell.
    let plans = c.args.plans.now in
    let s = c.plan-item.result in
    let i = c.loop-plan.plan-index in
    let told = subst (λ (p : Planned). TellsOf p done out c.args.sides.now) (sym c.plan.ensures) (tell s (plan_read plans i s c.loop-plan-test.true c.plan-item.is)) in
    let P = HasAhead c.args.journal.now c.args.leaf done out in
    none_more P (options_of plans) i c.has_ahead.result (c.loop-plan.invariant done out tell)
    (λ (o : ChoiceOption) at. subst (λ (q : ChoiceOption). IsTrue c.has_ahead.result ↔ P q) (same_plan plans i s c.plan.result.now o c.plan-item.is c.plan.ensures at) (c.has_ahead.ensures done out told))
    c.if-has_ahead.false

pub returns : goal.returns
returns c = λ done out tell.
    let os = options_of c.args.plans.now in
    let past : length os ≤ c.loop-plan.plan-index = omega (arith, c.loop-plan-test.false, length-options c.args.plans.now) in
    none_found (HasAhead c.args.journal.now c.args.leaf done out) os c.loop-plan.plan-index past (c.loop-plan.invariant done out tell)
