use Rattle.flow_case_talk.proofs.plan.plan_of.Goals as goal

pub returns-in-Done-clause-plan : goal.returns-in-Done-clause-plan
returns-in-Done-clause-plan g c = c.plan_to_finish.ensures.plan c.args.speaker.number
