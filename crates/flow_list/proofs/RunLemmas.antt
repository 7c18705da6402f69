-- A case under a policy, as a run and what is assigned.
use Rattle.std.proofs.Common.{◌≡◌, ℕ, Some, Vec, Global, sym, subst}
use Rattle.flow_model.specs.Verdict.{AreJust}
use Rattle.flow_core.specs.Run.{Run}
use Rattle.flow_policy.specs.Assigned.{Assigned}
use Rattle.flow_roles.specs.Desked.{Desked}
use Rattle.flow_staff.specs.Desk.{desk_of}
use Rattle.flow_case.specs.Ruled.{Ruled}
use Rattle.flow_case.specs.declared.case_run.CaseRun.{CaseRun}
use Rattle.flow_case.specs.declared.case_run.CaseRun.TheVariants.{UnderPolicy}
use Rattle.flow_case_state.specs.declared.state.CaseState.{CaseState}
use Rattle.flow_case_state.specs.State.{StandsUnder}
use Rattle.flow_case_state.specs.Takers.{IsTakerAt}
use Rattle.flow_list.specs.Line.{Stands}
use Rattle.flow_list.specs.Tasks.{AreUsersOf}

same_desk : (r : Run) (a : Assigned) (d : Desked) → r ≡ d.run → a ≡ d.assigned → desk_of r a ≡ d
same_desk r a d run assigned = λ i. record { run = run i; assigned = assigned i }

pub stands_under : (c : CaseRun) (ruled : Ruled) (r : Run) (a : Assigned) (users : ℕ) (state : CaseState) → c ≡ UnderPolicy ruled → r ≡ ruled.desk.run → a ≡ ruled.desk.assigned →
    StandsUnder (desk_of r a) users state → Stands c users state
stands_under c ruled r a users state is run assigned stands =
    subst (λ (x : CaseRun). Stands x users state) (sym is)
    (subst (λ (d : Desked). StandsUnder d users state) (same_desk r a ruled.desk run assigned) stands)

pub users_under : (c : CaseRun) (ruled : Ruled) (r : Run) (a : Assigned) (users leaf : ℕ) (found : Vec ℕ Global) → c ≡ UnderPolicy ruled → r ≡ ruled.desk.run →
    a ≡ ruled.desk.assigned → AreJust (IsTakerAt (desk_of r a) users leaf) found.items → AreUsersOf c users leaf (Some found)
users_under c ruled r a users leaf found is run assigned just =
    subst (λ (x : CaseRun). AreUsersOf x users leaf (Some found)) (sym is)
    (subst (λ (d : Desked). AreJust (IsTakerAt d users leaf) found.items) (same_desk r a ruled.desk run assigned) just)
