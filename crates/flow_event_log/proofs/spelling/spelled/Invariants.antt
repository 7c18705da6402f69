use Rattle.std.proofs.Common.{◌≡◌, take}
use Rattle.flow_event_log.specs.Spelling.{spelling}
use Rattle.flow_event_log.proofs.spelling.spelled.Given as goal

abbrev pub invariant-loop-byte : goal.invariant-loop-byte
invariant-loop-byte l = l.text.items ≡ spelling (take l.byte-index l.name)
