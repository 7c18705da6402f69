-- What a log shows.
use Rattle.std.specs.Prelude.{ℕ, List}
use Rattle.flow_event_log.specs.declared.event_log.Event.{Event}
use Rattle.flow_event_log.specs.declared.event_log.EventLog.{EventLog}
use Rattle.flow_event_log.specs.Rows.{rows_of}

-- the names of its cases
abbrev pub cases_in : EventLog → List (List ℕ)
cases_in log = log.cases

-- the names of its activities
abbrev pub activities_in : EventLog → List (List ℕ)
activities_in log = log.activities

-- its events in the order in which they happened
abbrev pub events_in : EventLog → List Event
events_in log = log.events.items

-- its rows in that order
abbrev pub rows_in : EventLog → List (List ℕ × List ℕ)
rows_in log = rows_of log.cases log.activities log.events.items
