use Rattle.std.proofs.Common.{◌≡◌, drop}
use Rattle.flow_text.specs.Named.{roles_of}
use Rattle.flow_text.specs.KnownNames.{has, no_names, repeated_from}
use Rattle.flow_text.proofs.names.first_repeated.Given as goal

abbrev pub invariant-loop-place : goal.invariant-loop-place
invariant-loop-place l = repeated_from no_names 0 (roles_of l.list) ≡ repeated_from (has l.names) l.place (roles_of (drop l.place l.list))
