use Rattle.std.proofs.Common.{◌≡◌, drop}
use Rattle.std.specs.List.{position_from}
use Rattle.flow_text.specs.Named.{roles_of}
use Rattle.flow_text.specs.KnownNames.{has, has_as_event, is_unknown}
use Rattle.flow_text.proofs.names.first_unknown.Given as goal

abbrev pub invariant-loop-place : goal.invariant-loop-place
invariant-loop-place l =
    position_from (is_unknown (has l.known.names) (has_as_event l.known.names)) 0 (roles_of l.list)
    ≡ position_from (is_unknown (has l.known.names) (has_as_event l.known.names)) l.place (roles_of (drop l.place l.list))
