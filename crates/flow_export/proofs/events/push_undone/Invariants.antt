use Rattle.std.proofs.Common.{◌≡◌, ◌++◌, take, filter_map}
use Rattle.flow_export.specs.Events.{undone_by}
use Rattle.flow_export.proofs.events.push_undone.Given as goal

abbrev pub invariant-loop-one : goal.invariant-loop-one
invariant-loop-one l = l.events.items ≡ l.initial.events.items ++ filter_map (undone_by l.place) (take l.one-index l.taken)
