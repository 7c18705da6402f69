use Rattle.std.proofs.Common.{◌≤◌, ◌+◌, true≢false, length, sym, ◌∙◌, subst, arith}
use Rattle.flow_plan.specs.Courses.{IsCourse}
use Rattle.flow_plan.specs.Options.{options_of, option_of}
use Rattle.flow_plan.specs.Planned.{Planned}
use Rattle.flow_residual.specs.Telling.{IsOrderedOption}
use Rattle.flow_residual.proofs.OptionLemmas.{length-options, none_found}
use Rattle.flow_trace.specs.Fronts.{Finishes, AreReachingBelow}
use Rattle.flow_trace.proofs.FrontLemmas.{option_read, plan_read, reaching_more, reaching_all, reaching_whole, some_whole}
use Rattle.flow_trace.proofs.follow.follow_each.Goals as goal

pub returns-then-is_whole-clause-reaching : goal.returns-then-is_whole-clause-reaching
returns-then-is_whole-clause-reaching c =
    let os = options_of c.args.plans.now in
    let i = c.loop-plan.plan-index in
    let o = option_of c.plan.result.now in
    let at = option_read c.args.plans.now i c.plan-item.result c.plan.result.now c.loop-plan-test.true c.plan-item.is c.plan.ensures in
    reaching_whole c.args.leaves.now os i o at (c.follow-reached.ensures.whole.0 c.if-is_whole.true)

pub returns-then-is_whole-clause-whole : goal.returns-then-is_whole-clause-whole
returns-then-is_whole-clause-whole c =
    let os = options_of c.args.plans.now in
    let i = c.loop-plan.plan-index in
    let o = option_of c.plan.result.now in
    let at = option_read c.args.plans.now i c.plan-item.result c.plan.result.now c.loop-plan-test.true c.plan-item.is c.plan.ensures in
    some_whole c.args.leaves.now os i o at (c.follow-reached.ensures.whole.0 c.if-is_whole.true)

pub loop-plan-preserved : goal.loop-plan-preserved
loop-plan-preserved c =
    let leaves = c.args.leaves.now in
    let os = options_of c.args.plans.now in
    let i = c.loop-plan.plan-index in
    let o = option_of c.plan.result.now in
    let at = option_read c.args.plans.now i c.plan-item.result c.plan.result.now c.loop-plan-test.true c.plan-item.is c.plan.ensures in
    subst (λ k. AreReachingBelow leaves os (i + 1) k) (sym c.max-longest.ensures)
    (reaching_more leaves os i c.loop-plan.longest c.follow-reached.result.0 o c.loop-plan.invariant at c.follow-reached.ensures.reaches
    (λ whole. true≢false (sym (c.follow-reached.ensures.whole.1 whole) ∙ c.if-is_whole.false)))

pub returns-clause-reaching : goal.returns-clause-reaching
returns-clause-reaching c =
    let os = options_of c.args.plans.now in
    let past : length os ≤ c.loop-plan.plan-index = omega (arith, c.loop-plan-test.false, length-options c.args.plans.now) in
    reaching_all c.args.leaves.now os c.loop-plan.plan-index c.loop-plan.longest past c.loop-plan.invariant

pub returns-clause-whole : goal.returns-clause-whole
returns-clause-whole c =
    let os = options_of c.args.plans.now in
    let past : length os ≤ c.loop-plan.plan-index = omega (arith, c.loop-plan-test.false, length-options c.args.plans.now) in
    none_found (Finishes c.args.leaves.now) os c.loop-plan.plan-index past c.loop-plan.invariant.none_whole

pub follow-reached-requires : goal.follow-reached-requires
follow-reached-requires c ordered =
    let s = c.plan-item.result in
    subst (λ (p : Planned). IsCourse p c.args.leaves.now c.args.course.now) (sym c.plan.ensures)
    (c.requires s (plan_read c.args.plans.now c.loop-plan.plan-index s c.loop-plan-test.true c.plan-item.is) (subst (λ (p : Planned). IsOrderedOption (option_of p)) c.plan.ensures ordered))
