use Rattle.std.proofs.Common.{◌≡◌, ◌≤◌, ◌<◌, ◌∙◌, ℕ, List, length, arith, subst, sym}
use Rattle.std.proofs.lemmas.Bool.{and_parts}
use Rattle.leaf_rows.specs.Leaves.{has_leaf}
use Rattle.flow_model.specs.declared.limits.TheConstants.{MOST_LEAVES}
use Rattle.flow_model.specs.Lists.{◌∈◌, Each}
use Rattle.flow_plan.specs.Options.{options_of}
use Rattle.flow_residual.specs.PlanRows.{IsLeafRow}
use Rattle.flow_residual.proofs.OptionLemmas.{length-options, turned_none, turned_by, turned_all}
use Rattle.flow_residual.proofs.plan_rows.fill.Goals as goal

pub loop-place-init : goal.loop-place-init
loop-place-init g c =
    let counted : length c.args.rows.now ≡ length (options_of c.args.plans.now) = omega (arith, length-options c.args.plans.now) in
    turned_none (λ o row. Unit {0}) IsLeafRow (options_of c.args.plans.now) c.args.rows.now (record { one_each = counted; each = λ k o x at is. tt })

pub loop-place-preserved : goal.loop-place-preserved
loop-place-preserved g c =
    let within : c.loop-place.place < length c.loop-place.rows = omega (arith, c.loop-place-test.true, c.loop-place.auto.rows) in
    turned_by (λ o row. Unit {0}) IsLeafRow c.args.plans.now c.loop-place.place c.resized.result c.resized.result c.loop-place.rows c.index-plans-place.result c.plan.result.now
    within c.index-plans-place.is c.plan.ensures c.loop-place.invariant (λ _ n has.
    subst (λ (l : List ℕ). n ∈ l) (c.leaves.ensures.leaves ∙ c.leaves.ensures.listed)
    ((c.set_of.ensures n).0 (and_parts _ (has_leaf c.set_of.result n) (sym (c.resized.ensures n) ∙ has)).1))

pub set_of-requires : goal.set_of-requires
set_of-requires g c = subst (Each (λ n. n < MOST_LEAVES)) (sym c.leaves.ensures.leaves) c.leaves.ensures.small

pub bounds-plans-place : goal.bounds-plans-place
bounds-plans-place g c = omega (arith, c.loop-place-test.true, c.loop-place.auto.rows)

pub returns : goal.returns
returns g c =
    let past : length c.loop-place.rows ≤ c.loop-place.place = omega (arith, c.loop-place-test.false, c.loop-place.auto.rows) in
    turned_all (λ o row. Unit {0}) IsLeafRow (options_of c.args.plans.now) c.loop-place.place c.loop-place.rows past c.loop-place.invariant
