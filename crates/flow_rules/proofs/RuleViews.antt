-- The normal form of a rule with others in it.
use Rattle.std.proofs.Common.{◌≡◌, ℕ, Bool, not, map, ap, sym, ◌∙◌, Vec, Box, Global}
use Rattle.std.proofs.lemmas.Simd.{map-map}
use Rattle.flow_rules.specs.declared.normal.Nnf.{Event, Order}
use Rattle.flow_rules.specs.declared.normal.Nnf.TheOpen as open_nnf
use Rattle.flow_rules.specs.declared.normal.Nnf.TheVariants.{rolls-Event, rolls-Order}
use Rattle.flow_rules.specs.declared.normal.Nnf.TheFolds.{fold-roll-Nnf}
use Rattle.flow_workflow.specs.declared.rule.Rule as rule
use Rattle.flow_workflow.specs.declared.rule.Rule.{Rule, Not, And, Or}
use Rattle.flow_workflow.specs.declared.rule.Rule.TheOpen as open_rule
use Rattle.flow_workflow.specs.declared.rule.Rule.TheVariants as rule_variants
use Rattle.flow_workflow.specs.declared.rule.Rule.TheVariants.{rolls-Must, rolls-Never, rolls-Not, rolls-And, rolls-Or}
use Rattle.flow_workflow.specs.declared.rule.Rule.TheFolds.{fold-roll-Rule}
use Rattle.flow_rules.specs.NormalForm.{NormalForm, event_form, chain_form, form_of, form_step, list_form, order_form, rule_form_step, rule_form}

pub form_of-Event : (wanted : Bool) (event : ℕ) → form_of (Event wanted event) ≡ event_form wanted event
form_of-Event wanted event = ap form_of (sym (rolls-Event wanted event)) ∙ fold-roll-Nnf NormalForm form_step (open_nnf.Event wanted event)

pub form_of-Order : (wanted : Bool) (a b : ℕ) → form_of (Order wanted a b) ≡ order_form wanted a b
form_of-Order wanted a b = ap form_of (sym (rolls-Order wanted a b)) ∙ fold-roll-Nnf NormalForm form_step (open_nnf.Order wanted a b)

pub form_must : (wanted : Bool) (r : Rule) (event : ℕ) → r ≡ rule.Must event → form_of (Event wanted event) ≡ rule_form r wanted
form_must wanted r event e =
    form_of-Event wanted event
    ∙ sym (ap (λ x. rule_form x wanted) e ∙ (λ k. (ap rule_form (sym (rolls-Must event)) ∙ fold-roll-Rule (Bool → NormalForm) rule_form_step (open_rule.Must event)) k wanted))

pub form_never : (wanted : Bool) (r : Rule) (event : ℕ) → r ≡ rule.Never event → form_of (Event (not wanted) event) ≡ rule_form r wanted
form_never wanted r event e =
    form_of-Event (not wanted) event
    ∙ sym (ap (λ x. rule_form x wanted) e ∙ (λ k. (ap rule_form (sym (rolls-Never event)) ∙ fold-roll-Rule (Bool → NormalForm) rule_form_step (open_rule.Never event)) k wanted))

pub form_order : (wanted : Bool) (r : Rule) (events : Vec ℕ Global) → r ≡ rule.Order events → chain_form wanted events.items ≡ rule_form r wanted
form_order wanted r events e =
    sym (ap (λ x. rule_form x wanted) e
    ∙ (λ k. (ap rule_form (sym (rule_variants.rolls-Order events)) ∙ fold-roll-Rule (Bool → NormalForm) rule_form_step (open_rule.Order events)) k wanted))

pub form_not : (wanted : Bool) (r : Rule) (part : Box Rule Global) → r ≡ Not part → rule_form part.value (not wanted) ≡ rule_form r wanted
form_not wanted r part e =
    sym (ap (λ x. rule_form x wanted) e ∙ (λ k. (ap rule_form (sym (rolls-Not part)) ∙ fold-roll-Rule (Bool → NormalForm) rule_form_step (open_rule.Not part)) k wanted))

pub form_and : (wanted : Bool) (r : Rule) (parts : Vec Rule Global) → r ≡ And parts →
    list_form wanted (map (λ p. rule_form p wanted) parts.items) ≡ rule_form r wanted
form_and wanted r parts e =
    sym (ap (λ x. rule_form x wanted) e
    ∙ (λ k. (ap rule_form (sym (rolls-And parts)) ∙ fold-roll-Rule (Bool → NormalForm) rule_form_step (open_rule.And parts)) k wanted)
    ∙ ap (list_form wanted) (map-map (λ (f : Bool → NormalForm). f wanted) rule_form parts.items))

pub form_or : (wanted : Bool) (r : Rule) (parts : Vec Rule Global) → r ≡ Or parts →
    list_form (not wanted) (map (λ p. rule_form p wanted) parts.items) ≡ rule_form r wanted
form_or wanted r parts e =
    sym (ap (λ x. rule_form x wanted) e
    ∙ (λ k. (ap rule_form (sym (rolls-Or parts)) ∙ fold-roll-Rule (Bool → NormalForm) rule_form_step (open_rule.Or parts)) k wanted)
    ∙ ap (list_form (not wanted)) (map-map (λ (f : Bool → NormalForm). f wanted) rule_form parts.items))
