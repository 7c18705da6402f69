use Rattle.flow_expand.proofs.leaves.+build.Given as goal

abbrev pub decreases-build : goal.decreases-build
decreases-build l = l.place
