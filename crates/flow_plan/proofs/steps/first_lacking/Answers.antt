use Rattle.std.proofs.Common.{◌<◌, ◌*◌, arith, ℕ, IsTrue, List, get_or, subst, sym, ◌∙◌}
use Rattle.std.proofs.lemmas.Bool.{true≢false}
use Rattle.std.proofs.lemmas.List.{take_all}
use Rattle.leaf_rows.specs.Leaves.{has_leaf}
use Rattle.flow_model.specs.Lists.{Each}
use Rattle.flow_model.proofs.Lists.{each_member}
use Rattle.flow_plan.proofs.PlaceLemmas.{read_member}
use Rattle.flow_plan.proofs.Widths.{each_more}
use Rattle.flow_plan.proofs.steps.first_lacking.Goals as goal

pub has-requires : goal.has-requires
has-requires g c =
    let leaf : ℕ = get_or c.args.list.now c.loop-leaf.leaf-index 0 in
    let wide = c.args.set.now.sized in
    (omega (arith, wide), each_member (λ n. n < 64 * g.row.V) c.args.list.now c.requires leaf (read_member c.args.list.now c.loop-leaf.leaf-index c.loop-leaf-test.true))

pub loop-leaf-preserved : goal.loop-leaf-preserved
loop-leaf-preserved g c =
    each_more (λ n. IsTrue (has_leaf c.args.set.now n)) c.args.list.now c.loop-leaf.leaf-index
    c.loop-leaf-test.true (sym c.has.ensures ∙ c.if-not-has.false) c.loop-leaf.invariant

pub returns-then-not-has-clause-some : goal.returns-then-not-has-clause-some
returns-then-not-has-clause-some g c =
    (read_member c.args.list.now c.loop-leaf.leaf-index c.loop-leaf-test.true, λ has. true≢false (sym (c.has.ensures ∙ has) ∙ c.if-not-has.true))

pub returns-clause-none : goal.returns-clause-none
returns-clause-none g c = subst (λ (l : List ℕ). Each (λ n. IsTrue (has_leaf c.args.set.now n)) l) (take_all c.loop-leaf.leaf-index c.args.list.now c.loop-leaf-test.false) c.loop-leaf.invariant
