-- Constraints as they are written, and their rules.
use Rattle.std.proofs.Common.{◌≡◌, ℕ, List, [], ◌∷◌, map, refl, sym, ap, ◌∙◌, Vec, Global}
use Rattle.flow_form.specs.declared.rule_form.RuleForm as form
use Rattle.flow_form.specs.declared.rule_form.RuleForm.{RuleForm}
use Rattle.flow_form.specs.declared.rule_form.RuleForm.TheOpen as open_rule
use Rattle.flow_form.specs.declared.rule_form.RuleForm.TheVariants.{rolls-And, rolls-Or}
use Rattle.flow_form.specs.declared.rule_form.RuleForm.TheFolds.{fold-roll-RuleForm}
use Rattle.flow_form.specs.RuleForm.{RuleShape, all, any, rule_step, rule_shape_of, rule_shapes}
use Rattle.flow_expand.specs.Constraints.{constraint_of, constraints_of}

pub shape_of-And : (parts : Vec RuleForm Global) → rule_shape_of (form.And parts) ≡ all (rule_shapes (map rule_shape_of parts.items))
shape_of-And parts = ap rule_shape_of (sym (rolls-And parts)) ∙ fold-roll-RuleForm RuleShape rule_step (open_rule.And parts)

pub shape_of-Or : (parts : Vec RuleForm Global) → rule_shape_of (form.Or parts) ≡ any (rule_shapes (map rule_shape_of parts.items))
shape_of-Or parts = ap rule_shape_of (sym (rolls-Or parts)) ∙ fold-roll-RuleForm RuleShape rule_step (open_rule.Or parts)

-- the rule of a list of constraints

pub constraints_of-shapes : (events : List (List ℕ)) (rs : List RuleShape) → constraints_of events (rule_shapes rs) ≡ map (constraint_of events) rs
constraints_of-shapes events [] = refl
constraints_of-shapes events (r ∷ rs) = ap (λ cs. constraint_of events r ∷ cs) (constraints_of-shapes events rs)
