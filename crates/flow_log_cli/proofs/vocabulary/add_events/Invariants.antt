use Rattle.std.proofs.Common.{◌≡◌, ◌++◌, take}
use Rattle.flow_log_cli.specs.Told.{texts_of}
use Rattle.flow_log_cli.proofs.vocabulary.add_events.Given as goal

abbrev pub invariant-loop-place : goal.invariant-loop-place
invariant-loop-place l = texts_of l.names.items ≡ texts_of l.initial.names.items ++ take l.place l.events
