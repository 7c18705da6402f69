use Rattle.std.proofs.Common.{◌≡◌, ◌∙◌, ℕ, Bool, false, nat_eq, List, ◌++◌, get_or, append_assoc, sym, ap, subst}
use Rattle.std.specs.Prelude.{OnOk}
use Rattle.flow_goal.specs.declared.goal.Goal.{Goal}
use Rattle.flow_goal.specs.Goal.{process_of}
use Rattle.flow_model.specs.Process.{Process}
use Rattle.flow_reason.specs.Sides.{has, certain, before}
use Rattle.flow_reason.proofs.SideSteps.{before_second, before_first}
use Rattle.flow_reason.proofs.sides.+push_before.Goals as goal

pub returns-in_ok-push_certain-in-Serial : goal.returns-in_ok-push_certain-in-Serial
returns-in_ok-push_certain-in-Serial t c =
    let done : ℕ → Bool = λ n. get_or c.args.done.now n false in
    let leaf : ℕ = c.args.leaf in
    let whole = ap process_of c.in-Serial.is in
    let left : List ℕ = c.args.left.now.items in
    let one = process_of c.in-Serial.first.value in
    let other = process_of c.in-Serial.second.value in
    let h = ap (λ (g : Goal). has (λ n. nat_eq n leaf) (process_of g)) (sym c.deref.ensures) ∙ sym c.has_leaf.ensures ∙ c.if-has_leaf.true in
    let mid = c.in_ok-push_certain-in-Serial.ensures ∙ ap (λ (g : Goal). left ++ certain done (process_of g)) c.deref-then-has_leaf.ensures in
    let eq = ap (λ (g : Goal). c.push_certain.new.left.items ++ before done leaf (process_of g)) c.deref-then-has_leaf-2.ensures
    ∙ ap (λ (l : List ℕ). l ++ before done leaf other) mid ∙ append_assoc left (certain done one) (before done leaf other)
    ∙ ap (λ (l : List ℕ). left ++ l) (sym (before_second done one other leaf h))
    ∙ ap (λ (g : Process). left ++ before done leaf g) (sym whole) in
    subst (λ (l : List ℕ). OnOk c.push_before.result (c.push_before.new.left.items ≡ l)) eq c.push_before.ensures

pub returns-else-has_leaf : goal.returns-else-has_leaf
returns-else-has_leaf t c =
    let done : ℕ → Bool = λ n. get_or c.args.done.now n false in
    let leaf : ℕ = c.args.leaf in
    let whole = ap process_of c.in-Serial.is in
    let one = process_of c.in-Serial.first.value in
    let other = process_of c.in-Serial.second.value in
    let h = ap (λ (g : Goal). has (λ n. nat_eq n leaf) (process_of g)) (sym c.deref.ensures) ∙ sym c.has_leaf.ensures ∙ c.if-has_leaf.false in
    let eq = ap (λ (g : Goal). before done leaf (process_of g)) c.deref-else-has_leaf.ensures ∙ sym (before_first done one other leaf h)
    ∙ ap (before done leaf) (sym whole) in
    subst (λ (l : List ℕ). OnOk c.push_before-else-has_leaf.result (c.push_before-else-has_leaf.new.left.items ≡ c.args.left.now.items ++ l)) eq
    c.push_before-else-has_leaf.ensures
