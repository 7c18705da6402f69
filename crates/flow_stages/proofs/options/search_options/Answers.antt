use Rattle.std.proofs.Common.{◌+◌, List, sym, subst, take, arith}
use Rattle.flow_model.specs.Lists.{◌∈◌}
use Rattle.flow_workflow.specs.Definition.{schema_of}
use Rattle.flow_plan.specs.Planned.{Planned}
use Rattle.flow_plan.specs.Sampled.{Sampled}
use Rattle.flow_stages.specs.declared.search.Look.{Look}
use Rattle.flow_stages.specs.Asked.{IsNeverSo, IsShown}
use Rattle.flow_stages.specs.Listed.{IsOpen, IsToldOn}
use Rattle.flow_stages.proofs.Loops.{all_next, here_in}
use Rattle.flow_stages.proofs.options.search_options.Goals as goal

pub loop-kept-preserved : goal.loop-kept-preserved
loop-kept-preserved c =
    let w = schema_of c.args.subject.workflow.now in
    let d = c.args.subject.policy.now.duties in
    let k = c.loop-kept.kept-index in
    let same = c.plans-kept-items.ensures.plans in record {
      never = λ kept m.
          all_next (λ (x : Sampled). IsNeverSo w d x.plan c.args.question) c.plans-kept-items.result.now k c.kept-item.result c.loop-kept-test.true
          (λ x j. c.loop-kept.invariant.never x (subst (λ l. x ∈ take k l) same j))
          (subst (λ (x : Sampled). IsNeverSo w d x.plan c.args.question) c.kept-item.is
          (subst (λ (p : Planned). IsNeverSo w d p c.args.question) c.plan.ensures (c.in_ok-run.ensures.never (subst IsOpen (sym c.in-Open.is) tt))))
          kept (subst (λ l. kept ∈ take (k + 1) l) (sym same) m);
      fewer = omega (arith, c.run.ensures.fewer, c.loop-kept.invariant.fewer);
    }

pub returns-in-Shown-clause-told : goal.returns-in-Shown-clause-told
returns-in-Shown-clause-told c =
    let w = schema_of c.args.subject.workflow.now in
    let d = c.args.subject.policy.now.duties in
    let all = c.plans-kept-items.result.now in
    let kept = c.kept-item.result in
    let there = subst (λ (x : Sampled). x ∈ all) (sym c.kept-item.is) (here_in all c.loop-kept.kept-index kept c.loop-kept-test.true) in
    let told = subst (λ (l : Look). IsToldOn w d c.plan.result.now c.args.question c.run.new.states l) c.in-Shown.is c.in_ok-run.ensures.told in (
      kept,
      subst (λ (l : List Sampled). kept ∈ l) c.plans-kept-items.ensures.plans there,
      subst (λ (p : Planned). IsShown w d p c.args.question c.in-Shown.leaves.items c.in-Shown.takers.items c.in-Shown.event) c.plan.ensures told,
    )
