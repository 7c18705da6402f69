use Rattle.std.proofs.Common.{◌≡◌, ◌+◌, ◌<◌, ◌↔◌, Bool, false, ℕ, List, IsTrue, drop, get_or, length, refl, subst, sym}
use Rattle.std.proofs.lemmas.List.{drop_all, drop_more}
use Rattle.flow_model.specs.Lists.{Each}
use Rattle.flow_model.proofs.Lists.{each_member}
use Rattle.flow_plan.specs.Orders.{MayComeNext}
use Rattle.flow_plan.proofs.PlaceLemmas.{read_member}
use Rattle.flow_plan.proofs.table.Table.each_ready.Goals as goal

module _ (P : ℕ → Type 0) (list : List ℕ) (i : ℕ) (answer : Bool) (within : i < length list) (says : IsTrue answer ↔ P (get_or list i 0)) where
  passed : IsTrue answer → Each P list ↔ Each P (drop i list) → Each P list ↔ Each P (drop (i + 1) list)
  passed holds before = (
    λ all. (subst (λ (l : List ℕ). Each P l) (drop_more list i 0 within) (before.0 all)).1,
    λ rest. before.1 (subst (λ (l : List ℕ). Each P l) (sym (drop_more list i 0 within)) (says.0 holds, rest)),
  )

  failed : answer ≡ false → IsTrue false ↔ Each P list
  failed fails = (λ wrong. absurd (cc), λ all. let yes = says.1 (each_member P list all (get_or list i 0) (read_member list i within)) in absurd (cc))

pub loop-leaf-preserved : goal.loop-leaf-preserved
loop-leaf-preserved g c = λ p table same done tell.
    passed (MayComeNext p (λ x. IsTrue (done x))) c.args.list.now c.loop-leaf.leaf-index c.ready.result
    c.loop-leaf-test.true (c.ready.ensures p table same done tell) c.if-not-ready.false (c.loop-leaf.invariant p table same done tell)

pub returns-then-not-ready : goal.returns-then-not-ready
returns-then-not-ready g c = λ p table same done tell.
    failed (MayComeNext p (λ x. IsTrue (done x))) c.args.list.now c.loop-leaf.leaf-index c.ready.result
    c.loop-leaf-test.true (c.ready.ensures p table same done tell) c.if-not-ready.true

pub returns : goal.returns
returns g c = λ p table same done tell. (
  λ yes. (c.loop-leaf.invariant p table same done tell).1 (subst (λ (l : List ℕ). Each (MayComeNext p (λ x. IsTrue (done x))) l)
      (sym (drop_all c.loop-leaf.leaf-index c.args.list.now c.loop-leaf-test.false)) tt),
  λ all. refl,
)
