use Rattle.flow_crew.proofs.standing.look.Goals as goal

pub returns-clause-next : goal.returns-clause-next
returns-clause-next c = rw (← c.look_ahead.ensures) c.next.ensures.next
