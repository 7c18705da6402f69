use Rattle.std.proofs.Common.{◌≡◌, ◌++◌, length}
use Rattle.flow_reader.specs.Symbols.{symbols_of}
use Rattle.flow_staff.specs.Roles.{roles_from, roles_said}
use Rattle.flow_staff.proofs.RoleSteps.{Left}
use Rattle.flow_staff.proofs.roles.roles_in.Given as goal

abbrev pub invariant-loop-token : goal.invariant-loop-token
invariant-loop-token l = Left l.text l.rest × (roles_said l.event (symbols_of l.text l.tokens) ≡ l.found.items ++ roles_from l.event l.reading l.role (symbols_of l.text l.rest))

abbrev pub decreases-loop-token : goal.decreases-loop-token
decreases-loop-token l = length l.rest
