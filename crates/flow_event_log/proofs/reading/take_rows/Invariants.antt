use Rattle.std.proofs.Common.{◌≡◌, ℕ, List}
use Rattle.flow_event_log.specs.Logs.{rows_in}
use Rattle.flow_event_log.specs.Taken.{HasNames, IsTakenFrom, header_of}
use Rattle.flow_event_log.proofs.FollowLemmas.{Gave}
use Rattle.flow_event_log.proofs.reading.take_rows.Given as goal

abbrev pub invariant-rows : goal.invariant-rows
invariant-rows g l =
    HasNames l.reading.log × (header_of l.reading ≡ header_of l.initial.reading) × (l.reading.was_sorted ≡ l.initial.reading.was_sorted)
    × (records : List (List (List ℕ))) × IsTakenFrom l.reading.columns records (rows_in l.reading.log) l.reading.left_out
    × Gave g.R.Read.remaining l.initial.reader l.reader records
