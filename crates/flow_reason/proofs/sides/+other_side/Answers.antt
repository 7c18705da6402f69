use Rattle.std.proofs.Common.{◌∙◌, ℕ, Bool, false, nat_eq, get_or, sym, ap}
use Rattle.flow_goal.specs.declared.goal.Goal.{Goal}
use Rattle.flow_goal.specs.Goal.{process_of}
use Rattle.flow_reason.specs.Sides.{has, first, other_side}
use Rattle.flow_reason.proofs.SideSteps.{one_chose, one_within, other_chose, other_within, neither}
use Rattle.flow_reason.proofs.sides.+other_side.Goals as goal

pub returns-in-Some : goal.returns-in-Some
returns-in-Some t c =
    let done : ℕ → Bool = λ n. get_or c.args.done.now n false in
    let leaf : ℕ = c.args.leaf in
    let whole = ap process_of c.in-Either.is in
    let h = ap (λ (g : Goal). has (λ n. nat_eq n leaf) (process_of g)) (sym c.deref.ensures) ∙ sym c.has_leaf.ensures ∙ c.if-has_leaf.true in
    let f = ap (λ (g : Goal). first done (process_of g)) (sym c.deref-then-has_leaf.ensures) ∙ sym c.first_done.ensures ∙ c.in-Some.is in
    one_chose done (process_of c.in-Either.one.value) (process_of c.in-Either.other.value) leaf c.in-Some.chose h f ∙ ap (other_side done leaf) (sym whole)

pub returns-in-None : goal.returns-in-None
returns-in-None t c =
    let done : ℕ → Bool = λ n. get_or c.args.done.now n false in
    let leaf : ℕ = c.args.leaf in
    let whole = ap process_of c.in-Either.is in
    let h = ap (λ (g : Goal). has (λ n. nat_eq n leaf) (process_of g)) (sym c.deref.ensures) ∙ sym c.has_leaf.ensures ∙ c.if-has_leaf.true in
    let f = ap (λ (g : Goal). first done (process_of g)) (sym c.deref-then-has_leaf.ensures) ∙ sym c.first_done.ensures ∙ c.in-None.is in
    let o = ap (λ (g : Goal). other_side done leaf (process_of g)) (sym c.deref-in-None.ensures) ∙ sym c.other_side.ensures in
    one_within done (process_of c.in-Either.one.value) (process_of c.in-Either.other.value) leaf c.other_side.result h f o ∙ ap (other_side done leaf) (sym whole)

pub returns-in-Some-first_done : goal.returns-in-Some-first_done
returns-in-Some-first_done t c =
    let done : ℕ → Bool = λ n. get_or c.args.done.now n false in
    let leaf : ℕ = c.args.leaf in
    let whole = ap process_of c.in-Either.is in
    let h = ap (λ (g : Goal). has (λ n. nat_eq n leaf) (process_of g)) (sym c.deref.ensures) ∙ sym c.has_leaf.ensures ∙ c.if-has_leaf.false in
    let k = ap (λ (g : Goal). has (λ n. nat_eq n leaf) (process_of g)) (sym c.deref-else-has_leaf.ensures) ∙ sym c.has_leaf-else-has_leaf.ensures ∙ c.if-has_leaf-2.true in
    let f = ap (λ (g : Goal). first done (process_of g)) (sym c.deref-then-has_leaf-2.ensures) ∙ sym c.first_done-then-has_leaf-2.ensures ∙ c.in-Some-first_done.is in
    other_chose done (process_of c.in-Either.one.value) (process_of c.in-Either.other.value) leaf c.in-Some-first_done.chose h k f ∙ ap (other_side done leaf) (sym whole)

pub returns-in-None-first_done : goal.returns-in-None-first_done
returns-in-None-first_done t c =
    let done : ℕ → Bool = λ n. get_or c.args.done.now n false in
    let leaf : ℕ = c.args.leaf in
    let whole = ap process_of c.in-Either.is in
    let h = ap (λ (g : Goal). has (λ n. nat_eq n leaf) (process_of g)) (sym c.deref.ensures) ∙ sym c.has_leaf.ensures ∙ c.if-has_leaf.false in
    let k = ap (λ (g : Goal). has (λ n. nat_eq n leaf) (process_of g)) (sym c.deref-else-has_leaf.ensures) ∙ sym c.has_leaf-else-has_leaf.ensures ∙ c.if-has_leaf-2.true in
    let f = ap (λ (g : Goal). first done (process_of g)) (sym c.deref-then-has_leaf-2.ensures) ∙ sym c.first_done-then-has_leaf-2.ensures ∙ c.in-None-first_done.is in
    let o = ap (λ (g : Goal). other_side done leaf (process_of g)) (sym c.deref-in-None-first_done.ensures) ∙ sym c.other_side-in-None-first_done.ensures in
    other_within done (process_of c.in-Either.one.value) (process_of c.in-Either.other.value) leaf c.other_side-in-None-first_done.result h k f o ∙ ap (other_side done leaf) (sym whole)

pub returns-else-has_leaf-2 : goal.returns-else-has_leaf-2
returns-else-has_leaf-2 t c =
    let done : ℕ → Bool = λ n. get_or c.args.done.now n false in
    let leaf : ℕ = c.args.leaf in
    let whole = ap process_of c.in-Either.is in
    let h = ap (λ (g : Goal). has (λ n. nat_eq n leaf) (process_of g)) (sym c.deref.ensures) ∙ sym c.has_leaf.ensures ∙ c.if-has_leaf.false in
    let k = ap (λ (g : Goal). has (λ n. nat_eq n leaf) (process_of g)) (sym c.deref-else-has_leaf.ensures) ∙ sym c.has_leaf-else-has_leaf.ensures ∙ c.if-has_leaf-2.false in
    neither done (process_of c.in-Either.one.value) (process_of c.in-Either.other.value) leaf h k ∙ ap (other_side done leaf) (sym whole)
