-- The case that bytes keep.
use Rattle.std.specs.Prelude.{◌≡◌, ℕ, List, Option}
use Rattle.flow_case.specs.declared.case_run.CaseRun.{CaseRun}
use Rattle.flow_case.specs.CaseRun.{run_of, case_with}
use Rattle.flow_keep.specs.Records.{Keeps}
use Rattle.flow_case_begin.specs.Begun.{IsCaseOf}

-- the case of the texts, gone on with the entries that the bytes keep
pub record IsKeptCase (workflow : List ℕ) (policy : Option (List ℕ)) (entries : List ℕ) (c : CaseRun) : Type 0 where
  pub begun : CaseRun
  pub of_texts : IsCaseOf workflow policy begun
  pub goes_on : c ≡ case_with begun (run_of c).history
  pub keeps : Keeps (run_of c).history entries
