-- The normal forms that the code makes have the ways of those of the definitions.
use Rattle.std.proofs.Common.{◌≡◌, ℕ, Bool, true, false, not, List, [], ◌∷◌, Vec, Box, Global, map, fold, refl, sym, ap, ◌∙◌, Option}
use Rattle.flow_model.specs.Constraint.{Constraint, Always, Impossible, Order, Not, And, Or, all_of}
use Rattle.flow_model.specs.Ways.{Normal, both, either, before, not_before, normal_form, chain, broken_chain, ways}
use Rattle.flow_workflow.specs.declared.rule.Rule as rule
use Rattle.flow_workflow.specs.declared.rule.Rule.{Rule}
use Rattle.flow_rules.specs.declared.normal.Nnf.{Event}
use Rattle.flow_rules.specs.Normal.{all_form, normal_of, pair_form, split_chain, split_form, linked}
use Rattle.flow_workflow.specs.Rule.{any_of, rule_of, rules_of}
use Rattle.flow_rules.specs.WayLists.{both_ways, either_way}
use Rattle.flow_workflow.proofs.RuleViews.{rule_of-Must, rule_of-Never, rule_of-Order, rule_of-Not, rule_of-And, rule_of-Or}
use Rattle.flow_rules.proofs.NormalViews.{normal_of-Event}
use Rattle.flow_rules.proofs.WayListLemmas.{both_free, both_assoc, either_nothing, either_assoc}

-- rules joined from the left

abbrev joined_with : (Constraint → Constraint → Constraint) → Constraint → List Constraint → Constraint
joined_with op c [] = c
joined_with op c (d ∷ ds) = joined_with op (op c d) ds

-- each rule, or its negation where it is not wanted
abbrev pub split_rules : Bool → List Rule → List Normal
split_rules wanted rules = map (λ r. split_form (rule_of r) wanted) rules

split_joined : (op : Constraint → Constraint → Constraint) (f : Normal → Normal → Normal) (wanted : Bool) →
    ((c d : Constraint) → split_form (op c d) wanted ≡ f (split_form c wanted) (split_form d wanted)) →
    (rules : List Rule) (c : Constraint) → split_form (joined_with op c (rules_of rules)) wanted ≡ fold f (split_form c wanted) (split_rules wanted rules)
split_joined op f wanted h [] c = refl
split_joined op f wanted h (r ∷ rules) c =
    split_joined op f wanted h rules (op c (rule_of r)) ∙ ap (λ n. fold f n (split_rules wanted rules)) (h c (rule_of r))

pub split_all : (wanted : Bool) (rules : List Rule) → split_form (all_of (rules_of rules)) wanted ≡ all_form wanted (split_rules wanted rules)
split_all true rules = split_joined And both true (λ c d. refl) rules Always
split_all false rules = split_joined And either false (λ c d. refl) rules Always

split_any : (wanted : Bool) (rules : List Rule) → split_form (any_of (rules_of rules)) wanted ≡ all_form (not wanted) (split_rules wanted rules)
split_any true rules = split_joined Or either true (λ c d. refl) rules Impossible
split_any false rules = split_joined Or both false (λ c d. refl) rules Impossible

pub split_and : (wanted : Bool) (r : Rule) (parts : Vec Rule Global) → r ≡ rule.And parts →
    all_form wanted (split_rules wanted parts.items) ≡ split_form (rule_of r) wanted
split_and wanted r parts e =
    sym (ap (λ x. split_form (rule_of x) wanted) e ∙ ap (λ c. split_form c wanted) (rule_of-And parts) ∙ split_all wanted parts.items)

pub split_or : (wanted : Bool) (r : Rule) (parts : Vec Rule Global) → r ≡ rule.Or parts →
    all_form (not wanted) (split_rules wanted parts.items) ≡ split_form (rule_of r) wanted
split_or wanted r parts e =
    sym (ap (λ x. split_form (rule_of x) wanted) e ∙ ap (λ c. split_form c wanted) (rule_of-Or parts) ∙ split_any wanted parts.items)

pub split_must : (wanted : Bool) (r : Rule) (event : ℕ) → r ≡ rule.Must event → normal_of (Event wanted event) ≡ split_form (rule_of r) wanted
split_must wanted r event e = normal_of-Event wanted event ∙ sym (ap (λ c. split_form c wanted) (ap rule_of e ∙ rule_of-Must event))

pub split_never : (wanted : Bool) (r : Rule) (event : ℕ) → r ≡ rule.Never event → normal_of (Event (not wanted) event) ≡ split_form (rule_of r) wanted
split_never wanted r event e = normal_of-Event (not wanted) event ∙ sym (ap (λ c. split_form c wanted) (ap rule_of e ∙ rule_of-Never event))

pub split_order : (wanted : Bool) (r : Rule) (events : Vec ℕ Global) → r ≡ rule.Order events → split_chain wanted events.items ≡ split_form (rule_of r) wanted
split_order wanted r events e = sym (ap (λ c. split_form c wanted) (ap rule_of e ∙ rule_of-Order events))

pub split_not : (wanted : Bool) (r : Rule) (part : Box Rule Global) → r ≡ rule.Not part → split_form (rule_of part.value) (not wanted) ≡ split_form (rule_of r) wanted
split_not wanted r part e = sym (ap (λ c. split_form c wanted) (ap rule_of e ∙ rule_of-Not part))

-- orders

linked_met : (leaf : ℕ → Option ℕ) (more : List ℕ) (n : Normal) (a b : ℕ) →
    ways (fold both n (linked (pair_form true) a (b ∷ more))) leaf ≡ both_ways (ways n leaf) (ways (chain (a ∷ b ∷ more)) leaf)
linked_met leaf [] n a b = refl
linked_met leaf (c ∷ more) n a b =
    linked_met leaf more (both n (before a b)) b c
    ∙ both_assoc (ways n leaf) (ways (before a b) leaf) (ways (chain (b ∷ c ∷ more)) leaf)

linked_unmet : (leaf : ℕ → Option ℕ) (more : List ℕ) (n : Normal) (a b : ℕ) →
    ways (fold either n (linked (pair_form false) a (b ∷ more))) leaf
    ≡ either_way (ways n leaf) (ways (broken_chain (a ∷ b ∷ more)) leaf)
linked_unmet leaf [] n a b = refl
linked_unmet leaf (c ∷ more) n a b =
    linked_unmet leaf more (either n (not_before a b)) b c
    ∙ either_assoc (ways n leaf) (ways (not_before a b) leaf) (ways (broken_chain (b ∷ c ∷ more)) leaf)

order_same : (leaf : ℕ → Option ℕ) (es : List ℕ) (wanted : Bool) →
    ways (split_chain wanted es) leaf ≡ ways (normal_form (Order es) wanted) leaf
order_same leaf (a ∷ b ∷ more) true = linked_met leaf more (all_form true []) a b ∙ both_free (ways (chain (a ∷ b ∷ more)) leaf)
order_same leaf (a ∷ b ∷ more) false =
    linked_unmet leaf more (all_form false []) a b ∙ either_nothing (ways (broken_chain (a ∷ b ∷ more)) leaf)
order_same leaf es true = refl
order_same leaf es false = refl

-- all constraints

pub same_ways : (leaf : ℕ → Option ℕ) (c : Constraint) (wanted : Bool) → ways (split_form c wanted) leaf ≡ ways (normal_form c wanted) leaf
same_ways leaf (Order es) wanted = order_same leaf es wanted
same_ways leaf (Not c) true = same_ways leaf c false
same_ways leaf (Not c) false = same_ways leaf c true
same_ways leaf (And c d) true = λ k. both_ways (same_ways leaf c true k) (same_ways leaf d true k)
same_ways leaf (And c d) false = λ k. either_way (same_ways leaf c false k) (same_ways leaf d false k)
same_ways leaf (Or c d) true = λ k. either_way (same_ways leaf c true k) (same_ways leaf d true k)
same_ways leaf (Or c d) false = λ k. both_ways (same_ways leaf c false k) (same_ways leaf d false k)
same_ways leaf c true = refl
same_ways leaf c false = refl
