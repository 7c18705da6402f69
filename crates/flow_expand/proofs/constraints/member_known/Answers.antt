use Rattle.std.proofs.Common.{ℕ, List, map, subst}
use Rattle.flow_model.specs.Lists.{◌∈◌, Each}
use Rattle.flow_form.specs.RuleForm.{rule_shape_of}
use Rattle.flow_form.specs.Names.{names_in_rule}
use Rattle.flow_expand.proofs.Members.{each_of_one}
use Rattle.flow_expand.proofs.Declarations.{names_in_all}
use Rattle.flow_expand.proofs.constraints.member_known.Goals as goal

pub returns : goal.returns
returns c =
    each_of_one (λ (n : List ℕ). n ∈ c.args.workflow.now.events) names_in_rule rule_shape_of c.args.forms.now c.args.place c.args.form.now c.requires.within c.requires.is
    (subst (Each (λ (n : List ℕ). n ∈ c.args.workflow.now.events)) (names_in_all (map rule_shape_of c.args.forms.now)) c.requires.known)
