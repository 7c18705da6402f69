use Rattle.std.proofs.Common.{◌≡◌, ◌<◌, ◌+◌, ◌∙◌, ℕ, Bool, true≢false, length, arith, ap, refl, subst, sym}
use Rattle.std.proofs.lemmas.Option.{slice_get_within, get_or_from_slice_get}
use Rattle.flow_model.proofs.MadeLists.{some_same}
use Rattle.flow_log.specs.Case.{fitted_of}
use Rattle.flow_log.specs.Search.{AreShort, Goes}
use Rattle.flow_log.specs.declared.point.Point.{Point}
use Rattle.flow_log.proofs.PointLemmas.{there_at, read_at, before_first, before_next, short_none, short_one, passed_one, found_all}
use Rattle.flow_log.proofs.points.Points.find.Goals.{then-index, else-index}
use Rattle.flow_log.proofs.points.Points.find.Goals as goal

pub loop-place-init : goal.loop-place-init
loop-place-init g c =
    let points = c.args.self.now.points.items in
    let first = there_at points 0 (omega (arith, c.requires.one)) in record {
      led = c.requires.led;
      before = before_first points c.requires.one;
      passed = λ i p leaf below there. absurd (omega (arith, below));
      short = short_none (fitted_of c.args.case.now) points first.0 first.1;
      few = omega (arith, c.requires.one);
    }

pub returns-then-is_end-clause-found : goal.returns-then-is_end-clause-found
returns-then-is_end-clause-found g c =
    let points = c.loop-place.self.points.items in
    let here = there_at points c.loop-place.place (omega (arith, c.loop-place-test.true, c.len.ensures)) in
    (here.0, here.1, c.is_end.ensures.yes c.if-is_end.true here.0 here.1)

pub index-requires : goal.index-requires
index-requires g c =
    let short = c.loop-place.invariant.short in
    omega (arith, slice_get_within c.loop-place.self.points.items c.loop-place.furthest short.best short.there, c.loop-place.self.points.ok)

pub loop-place-preserved : goal.loop-place-preserved
loop-place-preserved g c =
    let f = fitted_of c.args.case.now in
    let old = c.loop-place.self.points.items in
    let new = c.expand.new.self.points.items in
    let place = c.loop-place.place in
    let count = length c.args.case.now.workflow.now.tree.labels in
    let within : place < length old = omega (arith, c.loop-place-test.true, c.len.ensures) in
    let short = c.loop-place.invariant.short in
    let goes = subst (λ (b : Bool). Goes f c.args.budget old new place 0 count b) c.if-not-branch.false c.in_ok-expand.ensures in
    let p = c.index-in-loop-place.result.now in
    let there = read_at old place p within c.index-in-loop-place.ensures in
    let no_end = c.is_end.ensures.no (λ ended. true≢false (sym ended ∙ c.if-is_end.false)) p there in
    let best : c.index.result.now ≡ short.best = c.index.ensures ∙ get_or_from_slice_get old c.loop-place.furthest short.best c.index.result.now short.there in
    let best_is = ap (λ (q : Point g.row.W). q.count) best in record {
      led = goes.led;
      before = before_next new place count goes.before;
      passed = passed_one f c.args.budget old new place count goes within (omega arith) c.loop-place.invariant.passed;
      short = elim c.if-index.branch [
        | then-index w ↦ subst (λ (n : ℕ). AreShort f new (place + 1) n) (sym w.furthest-is)
            (short_one f old new place c.loop-place.furthest place p p goes.more within short there no_end there (omega arith)
            (λ q at. let same = ap (λ (r : Point g.row.W). r.count) (some_same short.best q (sym short.there ∙ at)) in omega (arith, same, best_is, w.if-index.true)))
        | else-index w ↦ subst (λ (n : ℕ). AreShort f new (place + 1) n) (sym w.furthest-is)
            (short_one f old new place c.loop-place.furthest c.loop-place.furthest p short.best goes.more within short there no_end short.there (omega (arith, best_is, w.if-index.false))
            (λ q at. let same = ap (λ (r : Point g.row.W). r.count) (some_same short.best q (sym short.there ∙ at)) in omega (arith, same)))
      ];
      few = (let more = goes.within refl in omega (arith, more, c.loop-place.invariant.few));
    }

pub returns-clause-found : goal.returns-clause-found
returns-clause-found g c = found_all (fitted_of c.args.case.now) c.loop-place.self.points.items c.loop-place.place c.loop-place.furthest
    (omega (arith, c.loop-place-test.false, c.len.ensures)) c.loop-place.invariant.passed c.loop-place.invariant.short
