use Rattle.std.proofs.Common.{◌≡◌, ◌++◌, take, filter_map}
use Rattle.flow_standing.specs.Following.{taken_by}
use Rattle.flow_standing.proofs.undone.take.Given as goal

abbrev pub invariant-loop-doing : goal.invariant-loop-doing
invariant-loop-doing l = l.all.items ≡ l.initial.all.items ++ filter_map (taken_by l.rewound) (take l.doing-index l.cut)
