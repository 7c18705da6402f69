use Rattle.std.proofs.Common.{◌⊎◌, inl, ⊎_elim, subst, arith}
use Rattle.flow_model.specs.Lists.{◌∈◌}
use Rattle.flow_stages.specs.declared.staffing.Step.{Step}
use Rattle.flow_stages.specs.Fitting.{Misses}
use Rattle.flow_stages.specs.Remains.{RemainsAt}
use Rattle.flow_stages.proofs.TogetherLemmas.{takers_fit, takers_meet}
use Rattle.flow_stages.proofs.staffing.Staff.fill.Goals as goal

pub returns-in-Never-clause-never : goal.returns-in-Never-clause-never
returns-in-Never-clause-never c = λ to fits _.
    let d = c.args.self.now.policy.now.duties in
    let events = c.args.events.now in
    ⊎_elim (λ misses. misses)
    (λ comes. ⊎_elim (λ misses. misses) (λ none. absurd none)
    (subst (λ (s : Step). Misses d c.args.wanted (λ e. e ∈ events) to ⊎ RemainsAt events c.step.new.taken.items to s) c.in-Never.is (c.in_ok-next.ensures.remains to fits comes)))
    (c.loop-round.invariant.remains to fits)

pub loop-round-preserved : goal.loop-round-preserved
loop-round-preserved c = record {
  first = c.step.ensures.first;
  together = c.step.ensures.together c.loop-round.invariant.together;
  fewer = omega (arith, c.loop-round.invariant.fewer, c.loop-round-test.true);
  remains = λ to fits.
      let d = c.args.self.now.policy.now.duties in
      let events = c.args.events.now in
      ⊎_elim (λ misses. inl misses)
      (λ comes. subst (λ (s : Step). Misses d c.args.wanted (λ e. e ∈ events) to ⊎ RemainsAt events c.step.new.taken.items to s) c.in-On.is (c.in_ok-next.ensures.remains to fits comes))
      (c.loop-round.invariant.remains to fits);
}

pub returns-in-Found-clause-found : goal.returns-in-Found-clause-found
returns-in-Found-clause-found c = λ _.
    let d = c.args.self.now.policy.now.duties in
    let events = c.args.events.now in
    let taken = c.step.new.taken.items in
    let (all, met) = c.in_ok-next.ensures.found c.in-Found.is in
    let together = c.step.ensures.together c.loop-round.invariant.together in (
      takers_fit d c.args.wanted events taken c.step.ensures.first all together,
      takers_meet d c.args.wanted events taken c.step.ensures.first all together met,
    )
