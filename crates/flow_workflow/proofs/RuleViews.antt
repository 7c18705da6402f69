-- The constraint of a rule with others in it, and of its copies.
use Rattle.std.proofs.Common.{◌≡◌, ◌+◌, ◌<◌, ◌++◌, ◌∷◌, [], ℕ, List, length, take, get_or, map, ap, sym, subst, inl, inr, ◌⊎◌, ◌∙◌, Vec, Box, Global}
use Rattle.std.specs.Prelude.{◌↔◌}
use Rattle.std.proofs.lemmas.List.{map-append, take_more}
use Rattle.flow_model.specs.Constraint as model
use Rattle.flow_model.specs.Constraint.{Constraint, all_of}
use Rattle.flow_workflow.specs.declared.rule.Rule as rule
use Rattle.flow_workflow.specs.declared.rule.Rule.{Rule, Not, And, Or}
use Rattle.flow_workflow.specs.declared.rule.Rule.TheOpen as open_rule
use Rattle.flow_workflow.specs.declared.rule.Rule.TheVariants as rule_variants
use Rattle.flow_workflow.specs.declared.rule.Rule.TheVariants.{rolls-Must, rolls-Never, rolls-Not, rolls-And, rolls-Or}
use Rattle.flow_workflow.specs.declared.rule.Rule.TheFolds.{fold-roll-Rule}
use Rattle.flow_workflow.specs.Rule.{any_of, rule_step, rule_of, rules_of}

pub rule_of-Must : (event : ℕ) → rule_of (rule.Must event) ≡ model.Must event
rule_of-Must event = ap rule_of (sym (rolls-Must event)) ∙ fold-roll-Rule Constraint rule_step (open_rule.Must event)

pub rule_of-Never : (event : ℕ) → rule_of (rule.Never event) ≡ model.Never event
rule_of-Never event = ap rule_of (sym (rolls-Never event)) ∙ fold-roll-Rule Constraint rule_step (open_rule.Never event)

pub rule_of-Order : (events : Vec ℕ Global) → rule_of (rule.Order events) ≡ model.Order events.items
rule_of-Order events = ap rule_of (sym (rule_variants.rolls-Order events)) ∙ fold-roll-Rule Constraint rule_step (open_rule.Order events)

pub rule_of-Not : (part : Box Rule Global) → rule_of (Not part) ≡ model.Not (rule_of part.value)
rule_of-Not part = ap rule_of (sym (rolls-Not part)) ∙ fold-roll-Rule Constraint rule_step (open_rule.Not part)

pub rule_of-And : (parts : Vec Rule Global) → rule_of (And parts) ≡ all_of (rules_of parts.items)
rule_of-And parts = ap rule_of (sym (rolls-And parts)) ∙ fold-roll-Rule Constraint rule_step (open_rule.And parts)

pub rule_of-Or : (parts : Vec Rule Global) → rule_of (Or parts) ≡ any_of (rules_of parts.items)
rule_of-Or parts = ap rule_of (sym (rolls-Or parts)) ∙ fold-roll-Rule Constraint rule_step (open_rule.Or parts)

-- each of the members made by a loop, one member more
pub made_more : {A B C : Type 0} (of : A → C) (from : B → C) (made new : List A) (one : A) (list : List B) (i : ℕ) (member : B) → i < length list → member ≡ get_or list i member →
    new ≡ made ++ one ∷ [] → of one ≡ from member → map of made ≡ map from (take i list) → map of new ≡ map from (take (i + 1) list)
made_more of from made new one list i member inside is pushed same so_far =
    ap (map of) pushed ∙ map-append of made (one ∷ []) ∙ (λ k. so_far k ++ (same ∙ ap from is) k ∷ [])
    ∙ sym (ap (map from) (take_more list i member inside) ∙ map-append from (take i list) (get_or list i member ∷ []))

-- a rule of which each part is a copy of that of another

pub order_copied : (r : Rule) (from copy : Vec ℕ Global) → r ≡ rule.Order from → copy.items ≡ from.items → rule_of (rule.Order copy) ≡ rule_of r
order_copied r from copy is same = rule_of-Order copy ∙ ap model.Order same ∙ sym (ap rule_of is ∙ rule_of-Order from)

pub not_copied : (r : Rule) (from copy : Box Rule Global) → r ≡ Not from → rule_of copy.value ≡ rule_of from.value → rule_of (Not copy) ≡ rule_of r
not_copied r from copy is same = rule_of-Not copy ∙ ap model.Not same ∙ sym (ap rule_of is ∙ rule_of-Not from)

pub and_copied : (r : Rule) (from copy : Vec Rule Global) → r ≡ And from → rules_of copy.items ≡ rules_of from.items → rule_of (And copy) ≡ rule_of r
and_copied r from copy is same = rule_of-And copy ∙ ap all_of same ∙ sym (ap rule_of is ∙ rule_of-And from)

pub or_copied : (r : Rule) (from copy : Vec Rule Global) → r ≡ Or from → rules_of copy.items ≡ rules_of from.items → rule_of (Or copy) ≡ rule_of r
or_copied r from copy is same = rule_of-Or copy ∙ ap any_of same ∙ sym (ap rule_of is ∙ rule_of-Or from)

-- the short forms

without_first : {A B : Type 0} → (⊥ ⊎ A) ⊎ B → A ⊎ B
without_first (inl (inl none)) = absurd none
without_first (inl (inr a)) = inl a
without_first (inr b) = inr b

with_first : {A B : Type 0} → A ⊎ B → (⊥ ⊎ A) ⊎ B
with_first (inl a) = inl (inr a)
with_first (inr b) = inr b

without_first_of_three : {A B C : Type 0} → ((⊥ ⊎ A) ⊎ B) ⊎ C → (A ⊎ B) ⊎ C
without_first_of_three (inl h) = inl (without_first h)
without_first_of_three (inr c) = inr c

with_first_of_three : {A B C : Type 0} → (A ⊎ B) ⊎ C → ((⊥ ⊎ A) ⊎ B) ⊎ C
with_first_of_three (inl h) = inl (with_first h)
with_first_of_three (inr c) = inr c

pub precedes_made : (parts : Vec Rule Global) (a b : ℕ) (order : Vec ℕ Global) → parts.items ≡ rule.Never a ∷ rule.Never b ∷ rule.Order order ∷ [] → order.items ≡ a ∷ b ∷ [] →
    (events : List ℕ) → model.Meets (rule_of (Or parts)) events ↔ model.Meets (model.precedes a b) events
precedes_made parts a b order is ordered events =
    subst (λ c. model.Meets c events ↔ model.Meets (model.precedes a b) events)
    (sym (rule_of-Or parts ∙ ap (λ list. any_of (rules_of list)) is
    ∙ (λ i. any_of (rule_of-Never a i ∷ rule_of-Never b i ∷ (rule_of-Order order ∙ ap model.Order ordered) i ∷ []))))
    ((λ h. without_first_of_three h), (λ h. with_first_of_three h))

pub needs_made : (parts : Vec Rule Global) (a b : ℕ) → parts.items ≡ rule.Never a ∷ rule.Must b ∷ [] →
    (events : List ℕ) → model.Meets (rule_of (Or parts)) events ↔ model.Meets (model.needs a b) events
needs_made parts a b is events =
    subst (λ c. model.Meets c events ↔ model.Meets (model.needs a b) events)
    (sym (rule_of-Or parts ∙ ap (λ list. any_of (rules_of list)) is ∙ (λ i. any_of (rule_of-Never a i ∷ rule_of-Must b i ∷ []))))
    ((λ h. without_first h), (λ h. with_first h))
