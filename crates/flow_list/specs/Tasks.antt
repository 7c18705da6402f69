-- The tasks of a case: those that may be begun and by whom, and those that are out.
use Rattle.std.specs.Prelude.{◌≡◌, ℕ, List, Option, None, Some, map}
use Rattle.std.proofs.Common.{Vec, Global}
use Rattle.flow_model.specs.Lists.{Each}
use Rattle.flow_model.specs.Run.{IsCurrent}
use Rattle.flow_model.specs.Verdict.{AreJust}
use Rattle.flow_core.specs.Run.{now}
use Rattle.flow_core.specs.Holding.{IsTakeable}
use Rattle.flow_case.specs.declared.case_run.CaseRun.{CaseRun}
use Rattle.flow_case.specs.declared.case_run.CaseRun.TheVariants.{Free, UnderPolicy}
use Rattle.flow_case.specs.CaseRun.{run_of}
use Rattle.flow_case_state.specs.Takers.{IsTakerAt}
use Rattle.flow_export.specs.declared.log_row.Teller.{Teller}
use Rattle.flow_list.specs.declared.tasks.Beginning.{Beginning}
use Rattle.flow_list.specs.declared.tasks.Tasks.{Tasks}
use Rattle.flow_list.specs.Out.{claim_of, IsOutSince}

abbrev pub leaf_of : Beginning → ℕ
leaf_of task = task.leaf

-- just the users, of so many, to whom duties leave the leaf's task; nobody is named without a policy
abbrev pub AreUsersOf : CaseRun → ℕ → ℕ → Option (Vec ℕ Global) → Type 0
AreUsersOf (Free r) users leaf found = found ≡ None
AreUsersOf (UnderPolicy c) users leaf None = ⊥
AreUsersOf (UnderPolicy c) users leaf (Some found) = AreJust (IsTakerAt c.desk users leaf) found.items

abbrev pub IsOpenTo : CaseRun → ℕ → Beginning → Type 0
IsOpenTo c users task = AreUsersOf c users task.leaf task.users

pub record AreTasksOf (c : CaseRun) (users : ℕ) (told : List Teller) (tasks : Tasks) : Type 0 where
  -- just the leaves on which a claim may be given now, each with just the users to whom duties leave it
  pub begin : AreJust (IsTakeable (run_of c)) (map leaf_of tasks.begin.items)
  pub open_to : Each (IsOpenTo c users) tasks.begin.items
  -- just the current claims, each with who took it and when
  pub out : AreJust (IsCurrent (now (run_of c))) (map claim_of tasks.out.items)
  pub since : Each (IsOutSince (run_of c) told) tasks.out.items
