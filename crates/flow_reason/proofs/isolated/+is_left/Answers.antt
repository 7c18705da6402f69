use Rattle.std.proofs.Common.{◌≡◌, ◌∙◌, ℕ, Bool, false, get_or, sym, ap}
use Rattle.flow_model.specs.Process.{Process}
use Rattle.flow_goal.specs.declared.goal.Goal.{Goal}
use Rattle.flow_goal.specs.Goal.{process_of}
use Rattle.flow_reason.specs.Isolated.{is_left, is_left_here}
use Rattle.flow_reason.proofs.SideSteps.{left_here}
use Rattle.flow_reason.proofs.isolated.+is_left.Goals as goal

pub returns-else-is_left : goal.returns-else-is_left
returns-else-is_left t c =
    let done : ℕ → Bool = λ n. get_or c.args.done.now n false in
    let leaf : ℕ = c.args.leaf in
    let other : ℕ = c.args.other in
    let part : Process = process_of c.in-Iso.part.value in
    let whole = ap process_of c.in-Iso.is in
    let none : is_left done leaf other part ≡ false =
    ap (λ (g : Goal). is_left done leaf other (process_of g)) (sym c.deref.ensures) ∙ sym c.is_left.ensures ∙ c.if-is_left.false in
    c.is_left_here.ensures ∙ ap (λ (g : Goal). is_left_here done leaf other (process_of g)) c.deref-else-is_left.ensures
    ∙ left_here done part leaf other none ∙ ap (is_left done leaf other) (sym whole)
