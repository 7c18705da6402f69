-- The desk of a run and a policy.
use Rattle.flow_core.specs.Run.{Run}
use Rattle.flow_policy.specs.Assigned.{Assigned}
use Rattle.flow_roles.specs.Desked.{Desked}

abbrev pub desk_of : Run → Assigned → Desked
desk_of r a = record { run = r; assigned = a }
