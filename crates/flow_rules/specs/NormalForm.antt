-- The normal form of a rule: its orders split into pairs, negation carried inward, its lists kept.
use Rattle.std.specs.Prelude.{ℕ, Bool, true, false, not, List, [], ◌∷◌, map}
use Rattle.flow_model.specs.declared.operators.Connective.{Connective}
use Rattle.flow_model.specs.declared.operators.Connective.TheVariants.{And, Or}
use Rattle.flow_rules.specs.declared.normal.Nnf.{Nnf}
use Rattle.flow_rules.specs.declared.normal.Nnf.TheOpen as open_nnf
use Rattle.flow_rules.specs.declared.normal.Nnf.TheOpen.{Nnf-F}
use Rattle.flow_rules.specs.declared.normal.Nnf.TheFolds.{fold-Nnf}
use Rattle.flow_workflow.specs.declared.rule.Rule.{Rule}
use Rattle.flow_workflow.specs.declared.rule.Rule.TheOpen as open_rule
use Rattle.flow_workflow.specs.declared.rule.Rule.TheOpen.{Rule-F}
use Rattle.flow_workflow.specs.declared.rule.Rule.TheFolds.{fold-Rule}
use Rattle.flow_rules.specs.Normal.{joining, linked}

mutual
  pub data NormalForm : Type 0 where
    must : ℕ → NormalForm
    never : ℕ → NormalForm
    before : ℕ → ℕ → NormalForm
    not_before : ℕ → ℕ → NormalForm
    all : NormalForms → NormalForm
    any : NormalForms → NormalForm

  -- a list of them
  pub data NormalForms : Type 0 where
    no_more : NormalForms
    followed : NormalForm → NormalForms → NormalForms

abbrev pub listed : List NormalForm → NormalForms
listed [] = no_more
listed (f ∷ fs) = followed f (listed fs)

-- Each of these says what is wanted of it where the flag is true, and else the negation.

-- an event
abbrev pub event_form : Bool → ℕ → NormalForm
event_form true e = must e
event_form false e = never e

-- one event before another
abbrev pub order_form : Bool → ℕ → ℕ → NormalForm
order_form true a b = before a b
order_form false a b = not_before a b

-- the parts that are joined so
abbrev pub joined_form : Connective → List NormalForm → NormalForm
joined_form And fs = all (listed fs)
joined_form Or fs = any (listed fs)

-- all of these, where negations of parts stand in the place of parts
abbrev pub list_form : Bool → List NormalForm → NormalForm
list_form wanted fs = joined_form (joining wanted) fs

-- a normal form of the code, with that of each part in its place
abbrev pub form_step : Nnf-F NormalForm → NormalForm
form_step (open_nnf.Event wanted e) = event_form wanted e
form_step (open_nnf.Order wanted a b) = order_form wanted a b
form_step (open_nnf.Parts c fs) = joined_form c fs.items

abbrev pub form_of : Nnf → NormalForm
form_of = fold-Nnf NormalForm form_step

-- a chain of events
abbrev pub chain_form : Bool → List ℕ → NormalForm
chain_form wanted [] = list_form wanted []
chain_form wanted (a ∷ []) = event_form wanted a
chain_form wanted (a ∷ b ∷ more) = list_form wanted (linked (order_form wanted) a (b ∷ more))

-- a rule, with what each part is in the place of the part
abbrev pub rule_form_step : Rule-F (Bool → NormalForm) → Bool → NormalForm
rule_form_step (open_rule.Must e) wanted = event_form wanted e
rule_form_step (open_rule.Never e) wanted = event_form (not wanted) e
rule_form_step (open_rule.Order es) wanted = chain_form wanted es.items
rule_form_step (open_rule.Not r) wanted = r.value (not wanted)
rule_form_step (open_rule.And rs) wanted = list_form wanted (map (λ r. r wanted) rs.items)
rule_form_step (open_rule.Or rs) wanted = list_form (not wanted) (map (λ r. r wanted) rs.items)

abbrev pub rule_form : Rule → Bool → NormalForm
rule_form = fold-Rule (Bool → NormalForm) rule_form_step
