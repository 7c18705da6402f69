use Rattle.std.proofs.Common.{List, ℕ, ◌∙◌, subst, sym, inl, true≢false}
use Rattle.flow_core.specs.Run.{Run}
use Rattle.flow_core.specs.Answers.{IsLeast}
use Rattle.flow_core.specs.Holding.{IsTakeable}
use Rattle.flow_names.specs.Meaning.{NoneHas}
use Rattle.flow_names.specs.Steps.{IsStepBefore, AreSteps}
use Rattle.flow_names.proofs.StepLemmas.{steps_more, none_left, not_done}
use Rattle.flow_names.proofs.scout.steps_to_take.Goals as goal

pub returns-in_default-clause-steps : goal.returns-in_default-clause-steps
returns-in_default-clause-steps g c =
    let r : Run = g.R.Asked.run c.args.scout.now in
    let back = sym c.look_ahead.ensures.run in
    let waits : ¬ (IsTakeable c.core.result.now c.args.leaf) =
    λ can. true≢false (sym (c.may_take.ensures.1 can) ∙ c.loop-alloc-test.true) in
    none_left g.R.Asked.run g.R.Asked.answers r c.args.by c.args.leaf c.loop-alloc.steps.items c.new.result.items c.look_ahead.new.self
    (subst (AreSteps r c.args.by c.args.leaf c.loop-alloc.steps.items) back c.loop-alloc.invariant.done)
    (subst (λ (m : Run). ¬ (IsTakeable m c.args.leaf)) (c.core.ensures ∙ back) waits)
    (subst (λ (m : Run). NoneHas (IsStepBefore m c.args.leaf)) c.core-in-loop-alloc.ensures c.in_default.ensures)
    c.new.ensures.items

pub returns-then-not-does-clause-steps : goal.returns-then-not-does-clause-steps
returns-then-not-does-clause-steps g c =
    let r : Run = g.R.Asked.run c.args.scout.now in
    let back = sym c.look_ahead.ensures.run in
    let waits : ¬ (IsTakeable c.core.result.now c.args.leaf) =
    λ can. true≢false (sym (c.may_take.ensures.1 can) ∙ c.loop-alloc-test.true) in
    not_done g.R.Asked.run g.R.Asked.answers r c.args.by c.args.leaf c.in-Some.step c.loop-alloc.steps.items c.new-then-not-does.result.items
    c.look_ahead.new.self c.does.new.scout
    (subst (AreSteps r c.args.by c.args.leaf c.loop-alloc.steps.items) back c.loop-alloc.invariant.done)
    (subst (λ (m : Run). ¬ (IsTakeable m c.args.leaf)) (c.core.ensures ∙ back) waits)
    (subst (λ (m : Run). IsLeast (IsStepBefore m c.args.leaf) c.in-Some.step) c.core-in-loop-alloc.ensures c.in-Some.ensures)
    c.if-not-does.ensures.does c.new-then-not-does.ensures.items

pub loop-alloc-preserved : goal.loop-alloc-preserved
loop-alloc-preserved g c =
    let r : Run = g.R.Asked.run c.args.scout.now in
    let back = sym c.look_ahead.ensures.run in
    let waits : ¬ (IsTakeable c.core.result.now c.args.leaf) =
    λ can. true≢false (sym (c.may_take.ensures.1 can) ∙ c.loop-alloc-test.true) in
    record {
      done = subst (λ (l : List ℕ). AreSteps r c.args.by c.args.leaf l (g.R.Asked.run c.does.new.scout)) (sym c.in_ok-push.ensures.items)
          (steps_more r c.args.by c.args.leaf c.loop-alloc.steps.items (g.R.Asked.run c.look_ahead.new.self) (g.R.Asked.run c.does.new.scout) c.in-Some.step
          (subst (AreSteps r c.args.by c.args.leaf c.loop-alloc.steps.items) back c.loop-alloc.invariant.done)
          (subst (λ (m : Run). ¬ (IsTakeable m c.args.leaf)) (c.core.ensures ∙ back) waits)
          (subst (λ (m : Run). IsLeast (IsStepBefore m c.args.leaf) c.in-Some.step) c.core-in-loop-alloc.ensures c.in-Some.ensures)
          c.if-not-does.ensures.does.1);
      can = c.if-not-does.ensures.lasts;
    }

pub returns-clause-steps : goal.returns-clause-steps
returns-clause-steps g c =
    inl (c.loop-alloc.invariant.done, subst (λ (m : Run). IsTakeable m c.args.leaf) c.core.ensures (c.may_take.ensures.0 c.loop-alloc-test.false))
