use Rattle.std.proofs.Common.{◌≡◌, ◌+◌, ◌*◌, ◌≤◌, ◌++◌, map, length}
use Rattle.flow_model.specs.declared.limits.TheConstants.{GREATEST_SIZE}
use Rattle.flow_form.specs.RuleForm.{rule_shape_of}
use Rattle.flow_gen.specs.Generated.{constraints}
use Rattle.flow_gen.proofs.rules.rules_of.Given as goal

abbrev pub invariant-loop-rest : goal.invariant-loop-rest
invariant-loop-rest l =
    (l.first + 8 * length l.rest ≤ 16 * GREATEST_SIZE) × (map rule_shape_of l.rules.items ++ constraints l.first l.rest ≡ constraints 0 l.draws)

abbrev pub decreases-loop-rest : goal.decreases-loop-rest
decreases-loop-rest l = length l.rest
