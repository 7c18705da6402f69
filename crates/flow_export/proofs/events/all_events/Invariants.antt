use Rattle.std.proofs.Common.{◌≡◌, take}
use Rattle.flow_standing.specs.Following.{leaves_given, leaf_numbered}
use Rattle.flow_export.specs.Events.{events_from}
use Rattle.flow_export.proofs.events.all_events.Given as goal

abbrev pub invariant-loop-place : goal.invariant-loop-place
invariant-loop-place l = l.events.items ≡ events_from (leaf_numbered (leaves_given l.history)) l.doings l.taken 0 (take l.place l.history)
