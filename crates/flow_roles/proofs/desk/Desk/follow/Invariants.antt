use Rattle.std.proofs.Common.{◌≡◌, take}
use Rattle.flow_roles.specs.Ask.{with_entries}
use Rattle.flow_roles.proofs.desk.Desk.follow.Given as goal

abbrev pub invariant-loop-index : goal.invariant-loop-index
invariant-loop-index l = l.self ≡ with_entries l.initial.self (take l.index l.entries)
