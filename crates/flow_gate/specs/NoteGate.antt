-- Outcomes as the declarations of events announce them.
use Rattle.std.specs.Prelude.{ℕ, nat_le, if◌then◌else◌}
use Rattle.flow_model.specs.declared.history.Call.{Call}
use Rattle.flow_model.specs.declared.history.Outcome.{Outcome}
use Rattle.flow_model.specs.declared.history.Outcome.TheVariants.{Done, Failed}
use Rattle.flow_model.specs.declared.labels.Note.{Note}
use Rattle.flow_model.specs.declared.labels.Note.TheVariants as note

-- the outcome of an attempt at a task, by the note of its event
abbrev pub outcome_by : Note → ℕ → Outcome
outcome_by note.Done attempt = Done
outcome_by note.Fail attempt = Failed
outcome_by (note.FailFirst count) attempt = if nat_le attempt count then Failed else Done

-- the outcome that the event's declaration announces
abbrev pub announced : Call → Outcome
announced call = outcome_by call.note call.attempt
