use Rattle.std.proofs.Common.{◌≡◌, ◌<◌, ◌≤◌, ◌-◌, ◌∷◌, [], ℕ, Bool, List, length, map, get_or, take, drop, ap, refl, ◌∙◌, arith}
use Rattle.std.proofs.lemmas.List.{take_all}
use Rattle.flow_rules.specs.declared.normal.Nnf.{Nnf}
use Rattle.flow_rules.specs.Normal.{all_form, linked, pair_form, split_chain}
use Rattle.flow_rules.specs.NormalForm.{chain_form, form_of, list_form, order_form}
use Rattle.flow_rules.proofs.NormalViews.{normal_of-Event}
use Rattle.flow_rules.proofs.RuleViews.{form_of-Event}
use Rattle.flow_rules.proofs.normal_form.chain.Goals as goal

no_events : (wanted : Bool) (events : List ℕ) → length events < 1 → list_form wanted [] ≡ chain_form wanted events
no_events wanted [] none = refl
no_events wanted (event ∷ more) none = absurd (omega arith)

only_event : (events : List ℕ) → 1 ≤ length events → length events < 2 → get_or events 0 0 ∷ [] ≡ events
only_event [] some few = absurd (omega arith)
only_event (event ∷ []) some few = refl
only_event (event ∷ next ∷ more) some few = absurd (omega arith)

several_events : {A : Type 0} (joined : ℕ → List ℕ → A) (chain : List ℕ → A) → ((a b : ℕ) (more : List ℕ) → joined a (b ∷ more) ≡ chain (a ∷ b ∷ more)) →
    (events : List ℕ) → 2 ≤ length events → joined (get_or events 0 0) (take (length events - 1) (drop 1 events)) ≡ chain events
several_events joined chain same [] some = absurd (omega arith)
several_events joined chain same (a ∷ []) some = absurd (omega arith)
several_events joined chain same (a ∷ b ∷ more) some = ap (joined a) (take_all (length (a ∷ b ∷ more) - 1) (b ∷ more) (omega arith)) ∙ same a b more

pub returns-in-len1-clause-tree : goal.returns-in-len1-clause-tree
returns-in-len1-clause-tree c =
    form_of-Event c.args.wanted (get_or c.args.events.now 0 0) ∙ ap (chain_form c.args.wanted) (only_event c.args.events.now c.in-len1.len_at_least c.in-len1.len_below)

pub returns-in-len1-clause-normal : goal.returns-in-len1-clause-normal
returns-in-len1-clause-normal c =
    normal_of-Event c.args.wanted (get_or c.args.events.now 0 0) ∙ ap (split_chain c.args.wanted) (only_event c.args.events.now c.in-len1.len_at_least c.in-len1.len_below)

pub returns-in_ok-pairs-in-len1-up-clause-tree : goal.returns-in_ok-pairs-in-len1-up-clause-tree
returns-in_ok-pairs-in-len1-up-clause-tree c =
    let wanted = c.args.wanted in
    c.all-in-len1-up.ensures.tree ∙ ap (list_form wanted) c.in_ok-pairs-in-len1-up.ensures.tree
    ∙ several_events (λ first rest. list_form wanted (linked (order_form wanted) first rest)) (chain_form wanted) (λ a b more. refl) c.args.events.now c.in-len1-up.len_at_least

pub returns-in_ok-pairs-in-len1-up-clause-normal : goal.returns-in_ok-pairs-in-len1-up-clause-normal
returns-in_ok-pairs-in-len1-up-clause-normal c =
    let wanted = c.args.wanted in
    c.all-in-len1-up.ensures.normal ∙ ap (all_form wanted) c.in_ok-pairs-in-len1-up.ensures.normal
    ∙ several_events (λ first rest. all_form wanted (linked (pair_form wanted) first rest)) (split_chain wanted) (λ a b more. refl) c.args.events.now c.in-len1-up.len_at_least

pub returns-in-empty-clause-tree : goal.returns-in-empty-clause-tree
returns-in-empty-clause-tree c =
    c.all.ensures.tree ∙ ap (λ (parts : List Nnf). list_form c.args.wanted (map form_of parts)) c.new.ensures.items ∙ no_events c.args.wanted c.args.events.now c.in-empty.len_below
