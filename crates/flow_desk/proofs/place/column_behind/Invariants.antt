use Rattle.std.proofs.Common.{◌≤◌, take, ◌+◌}
use Rattle.flow_desk.specs.Place.{IsColumn}
use Rattle.flow_desk.proofs.place.column_behind.Given as goal

abbrev pub invariant-loop-byte : goal.invariant-loop-byte
invariant-loop-byte l = record {
  column : IsColumn (take l.byte-index l.text) l.column;
  small : l.column ≤ l.byte-index + 1;
}
