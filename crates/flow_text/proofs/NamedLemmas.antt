-- The roles of lists.
use Rattle.std.proofs.Common.{◌≡◌, List, [], ◌∷◌, ◌++◌, map, flat_map, refl, ap, ◌∙◌, append_assoc}
use Rattle.flow_facts.specs.declared.constant.Const.{Const}
use Rattle.flow_facts.specs.declared.constant.Const.TheVariants.{Word, Number}
use Rattle.flow_form.specs.declared.rule_form.RuleForm.{RuleForm}
use Rattle.flow_form.specs.declared.script.Decl.{Decl}
use Rattle.flow_form.specs.declared.script.Script.{Script}
use Rattle.flow_form.specs.Form.{shape_of}
use Rattle.flow_form.specs.RuleForm.{rule_shape_of, rule_shapes}
use Rattle.flow_form.specs.Names.{names_in_rule, names_in_rules}
use Rattle.flow_form.specs.Script.{declared, said}
use Rattle.flow_grammar.specs.Roles.{Role, in_rule, constant_roles, goal_roles, declared_roles, script_roles}
use Rattle.flow_text.specs.declared.named.Named.{Named}
use Rattle.flow_text.specs.Named.{Adds, roles_of}

pub constants_join : (c : Const) (cs : List Const) → constant_roles (c ∷ cs) ≡ constant_roles (c ∷ []) ++ constant_roles cs
constants_join (Word n) cs = refl
constants_join (Number n) cs = refl

-- the rules of a script, one by one, have the names that the list of them has
pub names_of_rules : (rs : List RuleForm) → names_in_rules (rule_shapes (map rule_shape_of rs)) ≡ flat_map names_in_rule (map rule_shape_of rs)
names_of_rules [] = refl
names_of_rules (r ∷ rs) = ap (λ z. names_in_rule (rule_shape_of r) ++ z) (names_of_rules rs)

adds_twice : (old mid new : List Named) (xs ys : List Role) → Adds old mid xs → Adds mid new ys → Adds old new (xs ++ ys)
adds_twice old mid new xs ys a b = b ∙ ap (λ z. z ++ ys) a ∙ append_assoc (roles_of old) xs ys

pub script_listed : (a b c d : List Named) (s : Script) (ds : List Decl) (rs : List RuleForm) → a ≡ [] → ds ≡ s.decls.items → rs ≡ s.rules.items
    → Adds a b (flat_map declared_roles (map declared ds)) → Adds b c (goal_roles (shape_of s.goal))
    → Adds c d (map in_rule (names_in_rules (rule_shapes (map rule_shape_of rs)))) → roles_of d ≡ script_roles (said s)
script_listed a b c d s ds rs none decls rules first second third =
    adds_twice a b d _ _ first (adds_twice b c d _ _ second third)
    ∙ ap (λ z. roles_of z ++ (flat_map declared_roles (map declared ds) ++ (goal_roles (shape_of s.goal) ++ map in_rule (names_in_rules (rule_shapes (map rule_shape_of rs)))))) none
    ∙ ap (λ z. flat_map declared_roles (map declared z) ++ (goal_roles (shape_of s.goal) ++ map in_rule (names_in_rules (rule_shapes (map rule_shape_of rs))))) decls
    ∙ ap (λ z. flat_map declared_roles (map declared s.decls.items) ++ (goal_roles (shape_of s.goal) ++ map in_rule z)) (names_of_rules rs ∙ ap (λ z. flat_map names_in_rule (map rule_shape_of z)) rules)
