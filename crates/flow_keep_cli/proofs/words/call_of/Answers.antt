use Rattle.std.proofs.Common.{rules, ◌≡◌, ℕ, List, codes, sym, subst}
use Rattle.std.specs.Prelude.{map}
use Rattle.std.specs.String.{string_bytes}
use Rattle.flow_keep_cli.specs.Words.{IsSteps, IsCall}
use Rattle.flow_keep_cli.proofs.Calls.{steps_called, steps_not_called}
use Rattle.flow_keep_cli.proofs.words.call_of.Goals as goal

pub returns-in_err-steps-in-len4-clause-call : goal.returns-in_err-steps-in-len4-clause-call
returns-in_err-steps-in-len4-clause-call c =
    let named : string_bytes c.option-item.result ≡ codes "--steps" = search rules in
    rw c.from_residual.ensures
    (steps_not_called (λ word. string_bytes word) c.args.words.now c.path-item-then-words-lt5.result c.option-item.result c.number-item.result c.in-len4.len_at_least c.in-len4.len_below
    c.path-item-then-words-lt5.is c.option-item.is c.number-item.is named
    (λ steps is. c.in_err-steps-in-len4.ensures steps (subst (λ (w : List ℕ). IsSteps w steps) (sym c.deref-in-len4.ensures) is)))

pub returns-in_ok-steps-in-len4-clause-call : goal.returns-in_ok-steps-in-len4-clause-call
returns-in_ok-steps-in-len4-clause-call c =
    let named : string_bytes c.option-item.result ≡ codes "--steps" = search rules in
    let steps = c.in_ok-steps-in-len4.steps in
    subst (λ (path : List ℕ). IsCall (map (λ word. string_bytes word) c.args.words.now) path steps) (sym c.deref-in-len4-2.ensures)
    (steps_called (λ word. string_bytes word) c.args.words.now c.path-item-then-words-lt5.result c.option-item.result c.number-item.result c.in-len4.len_at_least c.in-len4.len_below
    c.path-item-then-words-lt5.is c.option-item.is c.number-item.is named steps
    (subst (λ (w : List ℕ). IsSteps w steps) c.deref-in-len4.ensures c.in_ok-steps-in-len4.ensures))
