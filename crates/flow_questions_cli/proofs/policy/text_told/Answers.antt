use Rattle.flow_questions_cli.proofs.policy.text_told.Goals as goal

pub returns-in-Ok : goal.returns-in-Ok
returns-in-Ok c = λ workflow is.
    c.policy_told.ensures workflow c.args.policy.now is (λ statements says. rw c.deref.ensures.value (c.in-Ok.ensures statements says))
