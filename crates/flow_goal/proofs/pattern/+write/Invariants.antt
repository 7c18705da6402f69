use Rattle.flow_goal.proofs.PatternLemmas.{pattern_size}
use Rattle.flow_goal.proofs.pattern.+write.Given as goal

abbrev pub decreases-write : goal.decreases-write
decreases-write l = pattern_size l.pattern.now
