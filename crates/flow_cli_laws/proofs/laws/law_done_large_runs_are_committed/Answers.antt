use Rattle.flow_cli_laws.proofs.LargeRuns.{large_runs_are_told, lines_are_single}
use Rattle.flow_cli_laws.proofs.laws.law_done_large_runs_are_committed.Goals as goal

pub returns : goal.returns
returns c = record { told = large_runs_are_told c.law_one_purpose.ensures; single = lines_are_single c.law_one_purpose.ensures }
