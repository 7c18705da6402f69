use Rattle.flow_reader.proofs.Ended.{no_atom}
use Rattle.flow_reader.proofs.goals.start_atom.Goals as goal

pub returns-in_default : goal.returns-in_default
returns-in_default c =
    no_atom _ _ c.args.symbol c.in_default.not-Nop c.in_default.not-Name c.in_default.not-Question c.in_default.not-Exclamation
    c.in_default.not-Ins c.in_default.not-Del c.in_default.not-Iso c.in_default.not-Opening

pub returns-in_ok-open-in-Opening : goal.returns-in_ok-open-in-Opening
returns-in_ok-open-in-Opening c = rw c.in-Opening.is (rw (c.in_ok-open-in-Opening.ensures.frames, c.in_ok-open-in-Opening.ensures.level))
