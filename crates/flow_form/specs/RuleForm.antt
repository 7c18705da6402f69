-- A constraint as it is written, without pointers.
use Rattle.std.specs.Prelude.{ℕ, List, [], ◌∷◌, ◌≤◌, length}
use Rattle.flow_form.specs.declared.rule_form.RuleForm.{RuleForm}
use Rattle.flow_form.specs.declared.rule_form.RuleForm.TheOpen as open_rule
use Rattle.flow_form.specs.declared.rule_form.RuleForm.TheOpen.{RuleForm-F}
use Rattle.flow_form.specs.declared.rule_form.RuleForm.TheFolds.{fold-RuleForm}

mutual
  pub data RuleShape : Type 0 where
    must : List ℕ → RuleShape
    never : List ℕ → RuleShape
    order : List (List ℕ) → RuleShape
    precedes : List ℕ → List ℕ → RuleShape
    needs : List ℕ → List ℕ → RuleShape
    negated : RuleShape → RuleShape
    all : RuleShapes → RuleShape
    any : RuleShapes → RuleShape

  -- a list of them
  pub data RuleShapes : Type 0 where
    no_more : RuleShapes
    followed : RuleShape → RuleShapes → RuleShapes

abbrev pub rule_shapes : List RuleShape → RuleShapes
rule_shapes [] = no_more
rule_shapes (r ∷ rs) = followed r (rule_shapes rs)

abbrev pub rule_members : RuleShapes → List RuleShape
rule_members no_more = []
rule_members (followed r rs) = r ∷ rule_members rs

-- one rule, with the shape of each inner rule in its place
abbrev pub rule_step : RuleForm-F RuleShape → RuleShape
rule_step (open_rule.Must n) = must n
rule_step (open_rule.Never n) = never n
rule_step (open_rule.Order ns) = order ns.items
rule_step (open_rule.Precedes a b) = precedes a b
rule_step (open_rule.Needs a b) = needs a b
rule_step (open_rule.Not r) = negated r.value
rule_step (open_rule.And rs) = all (rule_shapes rs.items)
rule_step (open_rule.Or rs) = any (rule_shapes rs.items)

abbrev pub rule_shape_of : RuleForm → RuleShape
rule_shape_of = fold-RuleForm RuleShape rule_step

-- each list in it has two or more members
abbrev mutual
  pub IsGroupedRule : RuleShape → Type 0
  IsGroupedRule (order ns) = 2 ≤ length ns
  IsGroupedRule (negated r) = IsGroupedRule r
  IsGroupedRule (all rs) = (2 ≤ length (rule_members rs)) × AreGroupedRules rs
  IsGroupedRule (any rs) = (2 ≤ length (rule_members rs)) × AreGroupedRules rs
  IsGroupedRule _ = Unit {0}

  pub AreGroupedRules : RuleShapes → Type 0
  AreGroupedRules no_more = Unit {0}
  AreGroupedRules (followed r rs) = IsGroupedRule r × AreGroupedRules rs
