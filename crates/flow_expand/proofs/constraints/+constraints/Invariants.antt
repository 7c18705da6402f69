use Rattle.std.proofs.Common.{◌≡◌, map, take}
use Rattle.flow_form.specs.RuleForm.{rule_shape_of, rule_shapes}
use Rattle.flow_workflow.specs.Rule as rules
use Rattle.flow_expand.specs.Constraints.{constraints_of}
use Rattle.flow_expand.proofs.constraints.+constraints.Given as goal

abbrev pub invariant-rules_of-loop-place : goal.invariant-rules_of-loop-place
invariant-rules_of-loop-place l = rules.rules_of l.made.items ≡ constraints_of l.workflow.events (rule_shapes (map rule_shape_of (take l.place l.forms)))
