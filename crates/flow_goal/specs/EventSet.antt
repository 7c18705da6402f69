-- Sets of events, as tables by their numbers.
use Rattle.std.specs.Prelude.{ℕ, Bool, false, get_or}
use Rattle.flow_goal.specs.declared.event_set.EventSet.{EventSet}

abbrev pub has_event : EventSet → ℕ → Bool
has_event set event = get_or set.table.items event false
