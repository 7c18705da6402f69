use Rattle.flow_cli_laws.proofs.DoneReports.{done_runs_are_reported}
use Rattle.flow_cli_laws.proofs.laws.law_done_runs_are_committed.Goals as goal

pub returns : goal.returns
returns c = done_runs_are_reported c.law_one_purpose.ensures
