use Rattle.std.proofs.Common.{◌∙◌, true, sym, ap}
use Rattle.flow_model.specs.Constraint.{all_of}
use Rattle.flow_model.specs.Ways.{ways}
use Rattle.flow_rules.specs.Normal.{all_normals}
use Rattle.flow_workflow.specs.Rule.{rules_of}
use Rattle.flow_rules.proofs.SplitForms.{same_ways, split_all}
use Rattle.flow_rules.proofs.conjunction.Conjunction.new.Goals as goal

pub returns : goal.returns
returns c = λ leaf.
    let rules = c.args.rules.now in
    ap (λ n. ways n leaf) (ap all_normals c.in_ok-rules.ensures.normal ∙ sym (split_all true rules)) ∙ same_ways leaf (all_of (rules_of rules)) true
