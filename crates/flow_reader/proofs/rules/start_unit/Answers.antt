use Rattle.flow_reader.proofs.Ended.{no_unit}
use Rattle.flow_reader.proofs.rules.start_unit.Goals as goal

pub returns-in_default : goal.returns-in_default
returns-in_default c =
    no_unit _ _ _ c.args.symbol c.in_default.not-Not c.in_default.not-Opening c.in_default.not-Must c.in_default.not-Never
    c.in_default.not-Order c.in_default.not-Precedes c.in_default.not-Needs

pub returns-in-Opening : goal.returns-in-Opening
returns-in-Opening c = rw c.in-Opening.is (rw (c.in_ok-open-in-Opening.ensures.frames, c.in_ok-open-in-Opening.ensures.level))
