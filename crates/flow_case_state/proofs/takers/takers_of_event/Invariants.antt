use Rattle.std.proofs.Common.{◌+◌}
use Rattle.flow_model.specs.Verdict.{AreJust}
use Rattle.flow_core.proofs.RisingLists.{Below}
use Rattle.flow_staff.specs.Desk.{desk_of}
use Rattle.flow_case_state.specs.Takers.{IsTaker}
use Rattle.flow_case_state.proofs.takers.takers_of_event.Given as goal

abbrev pub invariant-loop-place : goal.invariant-loop-place
invariant-loop-place l = AreJust (Below (IsTaker (desk_of l.core l.policy) l.users l.event) (l.place + 1)) l.found.items
