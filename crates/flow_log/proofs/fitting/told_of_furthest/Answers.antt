use Rattle.std.proofs.Common.{◌<◌, ◌∙◌, length, arith, ap, subst}
use Rattle.flow_workflow.specs.Definition.{schema_of}
use Rattle.flow_log.specs.Case.{fitted_of}
use Rattle.flow_log.specs.Fits.{FitsUpTo}
use Rattle.flow_log.specs.declared.point.Point.{Point}
use Rattle.flow_log.proofs.PointLemmas.{leading}
use Rattle.flow_log.proofs.FitLemmas.{furthest_read, few_events, told_front, told_upto, not_whole}
use Rattle.flow_log.proofs.fitting.told_of_furthest.Goals as goal

pub returns-then-at-case : goal.returns-then-at-case
returns-then-at-case g c budget =
    let f = fitted_of c.args.case.now in
    let points = c.args.points.now.points.items in
    let (lists, led) = c.requires.led in
    let (passed, short) = c.requires.found in
    let list = c.in_ok-list_of.field-0.items in
    let leads = led.each c.args.place short.best list short.there (c.in_ok-list_of.ensures lists f led) in
    let all = ap (λ (p : Point g.row.W). p.count) (furthest_read f points c.args.place c.index.result.now short c.index.ensures) ∙ c.if-at-case.true in (
      told_front c.args.case.now c.requires.kept points lists led passed c.args.place short list leads all,
      not_whole c.args.case.now c.requires.kept points lists led passed c.args.place short,
    )

pub bounds-case-at : goal.bounds-case-at
bounds-case-at g c =
    let f = fitted_of c.args.case.now in
    let points = c.args.points.now.points.items in
    let short = c.requires.found.1 in
    let (list, leads) = leading f points c.args.place short.best c.requires.led short.there in
    let same = ap (λ (p : Point g.row.W). p.count) (furthest_read f points c.args.place c.index.result.now short c.index.ensures) in
    omega (arith, leads.begun.within, same, c.if-at-case.false)

pub offset_bounds-case-at : goal.offset_bounds-case-at
offset_bounds-case-at g c =
    let f = fitted_of c.args.case.now in
    let points = c.args.points.now.points.items in
    let short = c.requires.found.1 in
    let (list, leads) = leading f points c.args.place short.best c.requires.led short.there in
    let same = ap (λ (p : Point g.row.W). p.count) (furthest_read f points c.args.place c.index.result.now short c.index.ensures) in
    record { fits = omega (arith, few_events c.args.case.now c.requires.kept list short.best leads, c.requires.kept.case.small, same) }

pub overflow_cast-result : goal.overflow_cast-result
overflow_cast-result g c =
    let f = fitted_of c.args.case.now in
    let points = c.args.points.now.points.items in
    let short = c.requires.found.1 in
    let (list, leads) = leading f points c.args.place short.best c.requires.led short.there in
    let same = ap (λ (p : Point g.row.W). p.count) (furthest_read f points c.args.place c.index.result.now short c.index.ensures) in
    record { fits = omega (arith, few_events c.args.case.now c.requires.kept list short.best leads, c.requires.kept.case.small, same) }

pub overflow_cast-result-else-case-at : goal.overflow_cast-result-else-case-at
overflow_cast-result-else-case-at g c =
    let f = fitted_of c.args.case.now in
    let points = c.args.points.now.points.items in
    let short = c.requires.found.1 in
    let (list, leads) = leading f points c.args.place short.best c.requires.led short.there in
    let same = ap (λ (p : Point g.row.W). p.count) (furthest_read f points c.args.place c.index.result.now short c.index.ensures) in
    record { fits = omega (arith, few_events c.args.case.now c.requires.kept list short.best leads, c.requires.kept.case.small, same) }

pub returns-then-case-at : goal.returns-then-case-at
returns-then-case-at g c budget =
    let f = fitted_of c.args.case.now in
    let points = c.args.points.now.points.items in
    let (lists, led) = c.requires.led in
    let (passed, short) = c.requires.found in
    let (list, leads) = leading f points c.args.place short.best (lists, led) short.there in
    let same = ap (λ (p : Point g.row.W). p.count) (furthest_read f points c.args.place c.index.result.now short c.index.ensures) in
    let less : short.best.count < length f.events = omega (arith, leads.begun.within, same, c.if-at-case.false) in (
      subst (λ n. FitsUpTo (schema_of c.args.case.now.workflow.now) f.events n) same
          (told_upto c.args.case.now c.requires.kept points lists led passed c.args.place short list leads less),
      omega (arith, c.if-case-at.true, ap length c.events.ensures.names),
    )

pub returns-else-case-at : goal.returns-else-case-at
returns-else-case-at g c budget =
    let f = fitted_of c.args.case.now in
    let points = c.args.points.now.points.items in
    let (lists, led) = c.requires.led in
    let (passed, short) = c.requires.found in
    let (list, leads) = leading f points c.args.place short.best (lists, led) short.there in
    let same = ap (λ (p : Point g.row.W). p.count) (furthest_read f points c.args.place c.index.result.now short c.index.ensures) in
    let less : short.best.count < length f.events = omega (arith, leads.begun.within, same, c.if-at-case.false) in (
      subst (λ n. FitsUpTo (schema_of c.args.case.now.workflow.now) f.events n) same
          (told_upto c.args.case.now c.requires.kept points lists led passed c.args.place short list leads less),
      omega (arith, c.if-case-at.false, ap length c.events.ensures.names),
    )
