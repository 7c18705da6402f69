use Rattle.flow_staff.specs.Desk.{desk_of}
use Rattle.flow_case_state.proofs.FreeLoops.{FirstAreForNone}
use Rattle.flow_case_state.proofs.state.are_for_none.Given as goal

abbrev pub invariant-loop-leaf : goal.invariant-loop-leaf
invariant-loop-leaf l = FirstAreForNone (desk_of l.core l.policy) l.users l.leaf
