use Rattle.std.proofs.Common.{◌∙◌, subst}
use Rattle.flow_workflow.specs.Numbered.{IsAdded}
use Rattle.flow_case.specs.Members.{said}
use Rattle.flow_case.proofs.NameSteps.{user_added}
use Rattle.flow_case.proofs.users.Users.add.Goals as goal

pub returns : goal.returns
returns c = λ so_far was.
    user_added so_far (said c.args.member) c.self.inside.names c.add-2.new.self (c.self.view_is ∙ was)
    (subst (λ n. IsAdded c.self.inside.names n c.add-2.new.self) c.in_ok-new.ensures c.in_ok-add.ensures.keys)
