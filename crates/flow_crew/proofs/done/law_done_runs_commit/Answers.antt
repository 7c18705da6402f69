use Rattle.flow_crew.proofs.DoneRuns.{are_plain, committed, counted, as_declared}
use Rattle.flow_crew.proofs.done.law_done_runs_commit.Goals as goal

pub returns : goal.returns
returns c = record { plain = are_plain; commit = committed; counted = counted; declared = as_declared }
