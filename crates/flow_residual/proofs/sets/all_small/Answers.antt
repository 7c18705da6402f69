use Rattle.std.proofs.Common.{◌<◌, ◌≤◌, ℕ, List, get_or, refl, sym, subst, arith, true≢false}
use Rattle.std.proofs.lemmas.List.{at_drop_more, drop_all}
use Rattle.flow_model.specs.declared.limits.TheConstants.{MOST_LEAVES}
use Rattle.flow_model.specs.Lists.{Each}
use Rattle.flow_residual.proofs.sets.all_small.Goals as goal

pub loop-leaf-preserved : goal.loop-leaf-preserved
loop-leaf-preserved c =
    let next = at_drop_more (λ (l : List ℕ). l) c.args.list.now c.loop-leaf.leaf-index 0 c.loop-leaf-test.true in
    (λ all. (subst (Each (λ n. n < MOST_LEAVES)) next (c.loop-leaf.invariant.0 all)).1, λ rest. c.loop-leaf.invariant.1 (subst (Each (λ n. n < MOST_LEAVES)) (sym next) (c.if-leaf-ge-MOST_LEAVES.false, rest)))

pub returns-then-leaf-ge-MOST_LEAVES : goal.returns-then-leaf-ge-MOST_LEAVES
returns-then-leaf-ge-MOST_LEAVES c =
    let next = at_drop_more (λ (l : List ℕ). l) c.args.list.now c.loop-leaf.leaf-index 0 c.loop-leaf-test.true in (
      λ no. absurd (true≢false (sym no)),
      λ all.
          let small : get_or c.args.list.now c.loop-leaf.leaf-index 0 < MOST_LEAVES = (subst (Each (λ n. n < MOST_LEAVES)) next (c.loop-leaf.invariant.0 all)).0 in
          let large : MOST_LEAVES ≤ get_or c.args.list.now c.loop-leaf.leaf-index 0 = c.if-leaf-ge-MOST_LEAVES.true in absurd (omega arith),
    )

pub returns : goal.returns
returns c =
    let empty = drop_all c.loop-leaf.leaf-index c.args.list.now c.loop-leaf-test.false in
    (λ _. c.loop-leaf.invariant.1 (subst (Each (λ n. n < MOST_LEAVES)) (sym empty) tt), λ _. refl)
