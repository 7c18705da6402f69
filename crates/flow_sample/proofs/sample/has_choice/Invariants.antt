use Rattle.std.proofs.Common.{take}
use Rattle.flow_sample.proofs.SideLemmas.{BeginsNone}
use Rattle.flow_sample.proofs.sample.has_choice.Given as goal

abbrev pub invariant-loop-node : goal.invariant-loop-node
invariant-loop-node l = BeginsNone (take l.node-index l.nodes)
