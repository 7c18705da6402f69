use Rattle.flow_reader.proofs.rule_levels.+negated.Given as goal

abbrev pub decreases-negated : goal.decreases-negated
decreases-negated l = l.nots
