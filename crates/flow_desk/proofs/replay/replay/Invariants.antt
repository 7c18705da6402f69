use Rattle.std.proofs.Common.{◌≡◌, take}
use Rattle.flow_desk.proofs.replay.replay.Given as goal

abbrev pub invariant-loop-index : goal.invariant-loop-index
invariant-loop-index l = l.core ≡ record l.initial.core { history = take l.index l.entries }
