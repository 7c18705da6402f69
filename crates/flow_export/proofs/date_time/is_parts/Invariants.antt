use Rattle.std.proofs.Common.{◌≡◌, length}
use Rattle.flow_export.specs.DateTime.{is_parts}
use Rattle.flow_export.proofs.date_time.is_parts.Given as goal

abbrev pub invariant-loop-byte : goal.invariant-loop-byte
invariant-loop-byte l = is_parts l.rest ≡ is_parts l.text

abbrev pub decreases-loop-byte : goal.decreases-loop-byte
decreases-loop-byte l = length l.rest
