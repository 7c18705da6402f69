use Rattle.flow_plan.proofs.passed.Passed.not_past.Goals as goal

pub returns-else-self-end-clause-passed : goal.returns-else-self-end-clause-passed
returns-else-self-end-clause-passed c = λ w ns sides asked are. c.new.ensures.passed w ns sides asked
