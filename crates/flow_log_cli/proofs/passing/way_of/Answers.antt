use Rattle.flow_log_cli.proofs.passing.way_of.Goals as goal

pub returns : goal.returns
returns c = (c.in_ok-told.told, c.in_ok-told.ensures.told, c.leaves_in.ensures)
