use Rattle.std.proofs.Common.{subst}
use Rattle.flow_workflow.specs.Numbered.{IsAdded}
use Rattle.flow_case.specs.Members.{said}
use Rattle.flow_case.proofs.NameSteps.{role_added}
use Rattle.flow_case.proofs.rule_names.add_role.Goals as goal

pub returns : goal.returns
returns c = λ so_far was.
    role_added so_far (said c.args.member) c.args.names.now c.add-2.new.self was (subst (λ n. IsAdded c.args.names.now n c.add-2.new.self) c.in_ok-new.ensures c.in_ok-add.ensures.keys)
