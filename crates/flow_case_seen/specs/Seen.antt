-- A case that is looked at.
use Rattle.std.specs.Prelude.{◌≡◌, ◌≤◌, ℕ, List, map, length}
use Rattle.flow_trail.specs.Lines.{Said, Says}
use Rattle.flow_case.specs.CaseRun.{run_of}
use Rattle.flow_case_seen.specs.declared.seen.SeenCase.{SeenCase}
use Rattle.flow_case_seen.specs.Texts.{Shared, start_of}
use Rattle.flow_case_seen.specs.Kept.{IsKeptCase}
use Rattle.flow_case_seen.specs.Tellers.{tale_in, makers}

-- The run is the case of the texts which the entries keep. The trail says lines which tell, in order, who made its entries and when; each
-- entry of the run is told. It may tell more: a writer tells an entry before he keeps it.
pub record IsSeen (texts : Shared) (entries trail : List ℕ) (seen : SeenCase) : Type 0 where
  pub kept : IsKeptCase texts.workflow texts.policy entries seen.run
  pub saying : List Said
  pub says : Says (start_of texts) saying trail
  pub makers_are : map tale_in seen.tellers.items ≡ makers saying
  pub all_told : length (run_of seen.run).history ≤ length seen.tellers.items
