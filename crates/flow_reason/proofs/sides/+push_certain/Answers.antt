use Rattle.std.proofs.Common.{◌≡◌, ◌∙◌, ℕ, Bool, false, is_some, List, ◌++◌, get_or, append_assoc, append-nil, sym, ap, subst, ⊎_elim}
use Rattle.std.specs.Prelude.{OnOk}
use Rattle.flow_goal.specs.declared.goal.Goal.{Goal}
use Rattle.flow_goal.specs.Goal.{process_of}
use Rattle.flow_reason.specs.Sides.{first, certain}
use Rattle.flow_reason.proofs.SideSteps.{begun_one, begun_other, begun_none}
use Rattle.flow_reason.proofs.sides.+push_certain.Goals as goal

pub returns-then-is_some : goal.returns-then-is_some
returns-then-is_some t c =
    let done : ℕ → Bool = λ n. get_or c.args.done.now n false in
    let whole = ap process_of c.in-Either.is in
    let e = ap is_some (ap (λ (g : Goal). first done (process_of g)) (sym c.deref.ensures) ∙ sym c.first_done.ensures) ∙ sym c.is_some.ensures ∙ c.if-is_some.true in
    let eq = ap (λ (g : Goal). certain done (process_of g)) c.deref-then-is_some.ensures
    ∙ sym (begun_one done (process_of c.in-Either.one.value) (process_of c.in-Either.other.value) e) ∙ ap (certain done) (sym whole) in
    subst (λ (l : List ℕ). OnOk c.push_certain.result (c.push_certain.new.left.items ≡ c.args.left.now.items ++ l)) eq c.push_certain.ensures

pub returns-then-is_some-2 : goal.returns-then-is_some-2
returns-then-is_some-2 t c =
    let done : ℕ → Bool = λ n. get_or c.args.done.now n false in
    let whole = ap process_of c.in-Either.is in
    let e = ap is_some (ap (λ (g : Goal). first done (process_of g)) (sym c.deref.ensures) ∙ sym c.first_done.ensures) ∙ sym c.is_some.ensures ∙ c.if-is_some.false in
    let f = ap is_some (ap (λ (g : Goal). first done (process_of g)) (sym c.deref-else-is_some.ensures) ∙ sym c.first_done-else-is_some.ensures)
    ∙ sym c.is_some-else-is_some.ensures ∙ c.if-is_some-2.true in
    let eq = ap (λ (g : Goal). certain done (process_of g)) c.deref-then-is_some-2.ensures
    ∙ sym (begun_other done (process_of c.in-Either.one.value) (process_of c.in-Either.other.value) e f) ∙ ap (certain done) (sym whole) in
    subst (λ (l : List ℕ). OnOk c.push_certain-then-is_some-2.result (c.push_certain-then-is_some-2.new.left.items ≡ c.args.left.now.items ++ l)) eq
    c.push_certain-then-is_some-2.ensures

pub returns-else-is_some-2 : goal.returns-else-is_some-2
returns-else-is_some-2 t c =
    let done : ℕ → Bool = λ n. get_or c.args.done.now n false in
    let whole = ap process_of c.in-Either.is in
    let e = ap is_some (ap (λ (g : Goal). first done (process_of g)) (sym c.deref.ensures) ∙ sym c.first_done.ensures) ∙ sym c.is_some.ensures ∙ c.if-is_some.false in
    let f = ap is_some (ap (λ (g : Goal). first done (process_of g)) (sym c.deref-else-is_some.ensures) ∙ sym c.first_done-else-is_some.ensures)
    ∙ sym c.is_some-else-is_some.ensures ∙ c.if-is_some-2.false in
    let eq = sym (begun_none done (process_of c.in-Either.one.value) (process_of c.in-Either.other.value) e f) ∙ ap (certain done) (sym whole) in
    sym (append-nil c.args.left.now.items) ∙ ap (λ (l : List ℕ). c.args.left.now.items ++ l) eq

pub returns-in_ok-push_certain-in-Serial : goal.returns-in_ok-push_certain-in-Serial
returns-in_ok-push_certain-in-Serial t c =
    let done : ℕ → Bool = λ n. get_or c.args.done.now n false in
    let left : List ℕ = c.args.left.now.items in
    let one = process_of c.in-Serial.first.value in
    let other = process_of c.in-Serial.second.value in
    let whole : certain done (process_of c.args.goal.now) ≡ certain done one ++ certain done other =
    ⊎_elim (λ is. ap (λ (g : Goal). certain done (process_of g)) is) (λ is. ap (λ (g : Goal). certain done (process_of g)) is) c.in-Serial.is in
    let mid = c.in_ok-push_certain-in-Serial.ensures ∙ ap (λ (g : Goal). left ++ certain done (process_of g)) c.deref-in-Serial.ensures in
    let eq = ap (λ (g : Goal). c.push_certain-in-Serial.new.left.items ++ certain done (process_of g)) c.deref-in-Serial-2.ensures
    ∙ ap (λ (l : List ℕ). l ++ certain done other) mid ∙ append_assoc left (certain done one) (certain done other)
    ∙ ap (λ (l : List ℕ). left ++ l) (sym whole) in
    subst (λ (l : List ℕ). OnOk c.push_certain-in-Serial-2.result (c.push_certain-in-Serial-2.new.left.items ≡ l)) eq c.push_certain-in-Serial-2.ensures
