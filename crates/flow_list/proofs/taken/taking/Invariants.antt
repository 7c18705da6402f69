use Rattle.flow_list.specs.Out.{GaveAt}
use Rattle.flow_list.proofs.PlaceLemmas.{NoneBefore}
use Rattle.flow_list.proofs.taken.taking.Given as goal

abbrev pub invariant-loop-place : goal.invariant-loop-place
invariant-loop-place l = NoneBefore (GaveAt l.history l.claim) l.place
