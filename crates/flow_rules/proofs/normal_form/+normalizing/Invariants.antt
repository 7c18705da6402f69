use Rattle.std.proofs.Common.{◌≡◌, take, map}
use Rattle.flow_rules.specs.NormalForm.{form_of, rule_form}
use Rattle.flow_workflow.specs.Rule.{rule_of}
use Rattle.flow_rules.specs.Normal.{normals_of, split_form}
use Rattle.flow_rules.proofs.normal_form.+normalizing.Given as goal

abbrev pub invariant-normal_forms-loop-rule : goal.invariant-normal_forms-loop-rule
invariant-normal_forms-loop-rule l =
    (map form_of l.forms.items ≡ map (λ rule. rule_form rule l.wanted) (take l.rule-index l.rules)) ×
    (normals_of l.forms.items ≡ map (λ rule. split_form (rule_of rule) l.wanted) (take l.rule-index l.rules))
