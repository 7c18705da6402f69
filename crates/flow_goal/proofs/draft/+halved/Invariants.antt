use Rattle.flow_goal.proofs.draft.+halved.Given as goal

abbrev pub decreases-halved : goal.decreases-halved
decreases-halved l = l.count
