use Rattle.std.proofs.Common.{◌≡◌, ◌++◌}
use Rattle.flow_rules.proofs.way_lists.add.Given as goal

abbrev pub invariant-loop-other : goal.invariant-loop-other
invariant-loop-other l = l.all.items ≡ l.initial.all.items ++ l.yielded
