use Rattle.flow_staff.specs.Desk.{desk_of}
use Rattle.flow_case_state.proofs.TakerLoops.{NoneOf}
use Rattle.flow_case_state.proofs.takers.is_left_to_none.Given as goal

abbrev pub invariant-loop-place : goal.invariant-loop-place
invariant-loop-place l = NoneOf (desk_of l.core l.policy) l.users l.event l.place
