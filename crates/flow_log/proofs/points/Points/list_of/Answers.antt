use Rattle.std.proofs.Common.{◌≡◌, ◌++◌, ◌∙◌, ℕ, List, Some, reverse, slice_get, arith, ap, subst, sym}
use Rattle.flow_log.proofs.PointLemmas.{read_at, list_ends, list_back, list_whole, back_less}
use Rattle.flow_log.proofs.points.Points.list_of.Goals as goal

pub loop-at-init : goal.loop-at-init
loop-at-init g c = record {
  inside = c.requires.place;
  led = λ f lists led. subst (λ (l : List ℕ). (front : List ℕ) × (slice_get lists c.args.place ≡ Some front) × (slice_get lists c.args.place ≡ Some (front ++ reverse l)))
      (sym c.new-leaves.ensures.items) (list_ends f c.args.self.now.points.items lists c.args.place led c.requires.place);
}

pub loop-at-smaller : goal.loop-at-smaller
loop-at-smaller g c =
    back_less c.requires.led.0 c.args.self.now.points.items c.loop-at.at c.index-point.result.now c.requires.led.1 c.loop-at-test.true
    (read_at c.args.self.now.points.items c.loop-at.at c.index-point.result.now c.loop-at.invariant.inside c.index-point.ensures)

pub loop-at-preserved : goal.loop-at-preserved
loop-at-preserved g c =
    let points = c.args.self.now.points.items in
    let there = read_at points c.loop-at.at c.index-point.result.now c.loop-at.invariant.inside c.index-point.ensures in
    let less = back_less c.requires.led.0 points c.loop-at.at c.index-point.result.now c.requires.led.1 c.loop-at-test.true there in record {
      inside = omega (arith, less, c.loop-at.invariant.inside);
      led = λ f lists led.
          subst (λ (l : List ℕ). (front : List ℕ) × (slice_get lists c.index-point.result.now.before ≡ Some front) × (slice_get lists c.args.place ≡ Some (front ++ reverse l)))
          (sym c.in_ok-push.ensures.items)
          (list_back f points lists led c.loop-at.at c.args.place c.index-point.result.now c.loop-at.leaves.items c.loop-at-test.true there (c.loop-at.invariant.led f lists led));
    }

pub returns : goal.returns
returns g c lists f led =
    list_whole f c.args.self.now.points.items lists led c.loop-at.at c.args.place c.loop-at.leaves.items (λ more. omega (arith, more, c.loop-at-test.false)) (c.loop-at.invariant.led f lists led)
    ∙ ap (λ (l : List ℕ). Some l) (sym c.reverse.ensures.items)
