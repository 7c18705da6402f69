use Rattle.std.proofs.Common.{take, sym, subst}
use Rattle.flow_plan.specs.Options.{option_of}
use Rattle.flow_residual.specs.Track.{IsFront}
use Rattle.flow_residual.proofs.FrontLemmas.{front_cut}
use Rattle.flow_residual.proofs.fronts.after.Goals as goal

pub returns-in-Done : goal.returns-in-Done
returns-in-Done c is = rw c.in-Done.is (c.lengthened.ensures is)

pub returns-in-Back : goal.returns-in-Back
returns-in-Back c is =
    let o = option_of c.args.plan.now in
    let index = c.in-Back.index in
    rw c.in-Back.is (subst (IsFront (take index c.args.journal.now) o) (sym c.min.ensures) (front_cut o c.args.journal.now c.args.front index is))
