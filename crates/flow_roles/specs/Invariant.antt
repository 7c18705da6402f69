-- What a desk keeps: each claim of its run was left to its taker when it was given.
use Rattle.flow_model.specs.Duties.{IsDutiful}
use Rattle.flow_core.specs.Run.{schema}
use Rattle.flow_roles.specs.declared.desk.Desk.TheInside.{Inside}
use Rattle.flow_roles.specs.Desked.{Desked}

abbrev pub desked_by : Inside → Desked
desked_by d = record { run = d.core; assigned = d.policy }

abbrev pub IsAttended : Inside → Type 0
IsAttended d = IsDutiful (schema d.core) d.policy.duties d.core.history
