use Rattle.std.proofs.Common.{refl, rules, sym, subst, inl}
use Rattle.std.specs.List.Sorted.{IsStrictlyIncreasing}
use Rattle.flow_model.specs.Process.{leaves}
use Rattle.flow_plan.specs.Planned.{pairs_of}
use Rattle.flow_sample.specs.Rows.{AreApart}
use Rattle.flow_sample.proofs.ItemLemmas.{are_apart}
use Rattle.flow_sample.proofs.RisingLemmas.{rises}
use Rattle.flow_sample.proofs.LaidLemmas.{run_traced, ring_told}
use Rattle.flow_sample.proofs.SideLemmas.{ordered}
use Rattle.flow_sample.proofs.by_items.run_by_sets.Goals as goal

pub run_of-requires : goal.run_of-requires
run_of-requires g c =
    let plan = c.args.plan.now in
    let pairs = pairs_of plan.tokens in
    let wide = c.requires.wide in (
      search rules,
      (
        wide,
        subst AreApart (sym c.deref.ensures.value)
            (are_apart plan.process pairs (ordered plan.process pairs c.tokens-tokens.ensures.ordered c.requires.choice_free) plan.process (inl refl) c.in_ok-items.items.items
            c.in_ok-items.ensures (rises (leaves plan.process) (subst IsStrictlyIncreasing c.leaves-leaves.ensures.listed c.leaves-leaves.ensures.rising))),
      ),
    )

pub returns-clause-ok : goal.returns-clause-ok
returns-clause-ok g c =
    run_traced c.args.plan.now.process (pairs_of c.args.plan.now.tokens) (ordered c.args.plan.now.process (pairs_of c.args.plan.now.tokens) c.tokens-tokens.ensures.ordered c.requires.choice_free) c.in_ok-items.items.items c.deref.result.now
    c.in_ok-items.ensures c.deref.ensures.value c.run_of.result c.run_of.ensures.ok

pub returns-clause-circle : goal.returns-clause-circle
returns-clause-circle g c =
    ring_told c.args.plan.now.process (pairs_of c.args.plan.now.tokens) (ordered c.args.plan.now.process (pairs_of c.args.plan.now.tokens) c.tokens-tokens.ensures.ordered c.requires.choice_free) c.in_ok-items.items.items c.deref.result.now
    c.in_ok-items.ensures c.deref.ensures.value c.run_of.result c.run_of.ensures.ring
