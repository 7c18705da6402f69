use Rattle.std.proofs.Common.{sym, ap, ◌∙◌, subst}
use Rattle.std.proofs.lemmas.Result.{err_from_is_err_and}
use Rattle.flow_form.specs.Script.{said}
use Rattle.flow_policy.specs.Policy.{IsPolicyOf}
use Rattle.flow_case.specs.Split.{blanked}
use Rattle.flow_case.proofs.MemberLemmas.{with_list}
use Rattle.flow_case.proofs.CaseLemmas.{case_policy, case_refusal}
use Rattle.flow_case.proofs.case_policy.case_policy_of.Goals as goal

pub returns-in_err-tokens-clause-refused : goal.returns-in_err-tokens-clause-refused
returns-in_err-tokens-clause-refused c =
    let p = err_from_is_err_and c.from_residual.result c.from_residual.ensures.1 in
    rw (p.1, p.2) (c.in_err-tokens.ensures.refused (said c.args.script.now) c.args.workflow.now.events)

pub invariant_of-result : goal.invariant_of-result
invariant_of-result c =
    let text = c.args.text.now in
    let s = said c.args.script.now in
    let left = c.deref-5.ensures.value ∙ c.in_ok-duties.ensures.items ∙ ap (blanked text 0) (c.deref-2.ensures.value ∙ sym c.deref-4.ensures.value) in
    let h = subst (λ l. IsPolicyOf l s c.in_ok-policy.policy) (c.deref-3.ensures.value ∙ sym c.deref-5.ensures.value) c.in_ok-policy.ensures.ok in
    (case_policy text c.deref-4.result.now c.deref.result.now c.deref-5.result.now s c.args.workflow.now.events c.in_ok-tokens.ensures.ascii
    (c.in_ok-tokens.ensures.tokens ∙ ap with_list (sym c.deref.ensures.value)) (c.deref-4.ensures.value ∙ c.in_ok-cut.ensures.cut) left
    c.in_ok-policy.policy c.in-Ok.field-0.users c.in-Ok.field-0.rules h (c.in-Ok.ensures.ok h.statements h.says)).1

pub returns-in-Ok-clause-ok : goal.returns-in-Ok-clause-ok
returns-in-Ok-clause-ok c =
    let text = c.args.text.now in
    let s = said c.args.script.now in
    let left = c.deref-5.ensures.value ∙ c.in_ok-duties.ensures.items ∙ ap (blanked text 0) (c.deref-2.ensures.value ∙ sym c.deref-4.ensures.value) in
    let h = subst (λ l. IsPolicyOf l s c.in_ok-policy.policy) (c.deref-3.ensures.value ∙ sym c.deref-5.ensures.value) c.in_ok-policy.ensures.ok in
    (case_policy text c.deref-4.result.now c.deref.result.now c.deref-5.result.now s c.args.workflow.now.events c.in_ok-tokens.ensures.ascii
    (c.in_ok-tokens.ensures.tokens ∙ ap with_list (sym c.deref.ensures.value)) (c.deref-4.ensures.value ∙ c.in_ok-cut.ensures.cut) left
    c.in_ok-policy.policy c.in-Ok.field-0.users c.in-Ok.field-0.rules h (c.in-Ok.ensures.ok h.statements h.says)).0

pub returns-clause-refused : goal.returns-clause-refused
returns-clause-refused c =
    let text = c.args.text.now in
    let s = said c.args.script.now in
    let left = c.deref-5.ensures.value ∙ c.in_ok-duties.ensures.items ∙ ap (blanked text 0) (c.deref-2.ensures.value ∙ sym c.deref-4.ensures.value) in
    let h = subst (λ l. IsPolicyOf l s c.in_ok-policy.policy) (c.deref-3.ensures.value ∙ sym c.deref-5.ensures.value) c.in_ok-policy.ensures.ok in
    case_refusal text c.deref-4.result.now c.deref.result.now c.deref-5.result.now s c.args.workflow.now.events c.in_ok-tokens.ensures.ascii
    (c.in_ok-tokens.ensures.tokens ∙ ap with_list (sym c.deref.ensures.value)) (c.deref-4.ensures.value ∙ c.in_ok-cut.ensures.cut) left
    c.in_ok-policy.policy c.in-Err.refusal h (c.in-Err.ensures.refused h.statements h.says)
