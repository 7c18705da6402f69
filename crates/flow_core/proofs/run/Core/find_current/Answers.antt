use Rattle.flow_core.proofs.run.Core.find_current.Goals as goal

pub returns-then-is_current : goal.returns-then-is_current
returns-then-is_current c = (c.is_current.ensures.0 c.if-is_current.true, c.in_ok-given.ensures)
