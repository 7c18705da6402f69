use Rattle.std.proofs.Common.{◌≡◌, take}
use Rattle.csv.specs.Records.{fields_of}
use Rattle.flow_event_log.specs.Taken.{texts_of}
use Rattle.flow_event_log.proofs.reading.names_in.Given as goal

abbrev pub invariant-loop-place : goal.invariant-loop-place
invariant-loop-place l = texts_of l.names.items ≡ take l.place (fields_of l.record)
