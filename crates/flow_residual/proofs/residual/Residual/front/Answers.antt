use Rattle.std.proofs.Common.{◌≡◌, Some, slice_get, sym, subst}
use Rattle.flow_residual.specs.Remaining.{Remaining}
use Rattle.flow_residual.specs.Track.{IsFront}
use Rattle.flow_residual.proofs.residual.Residual.front.Goals as goal

pub returns : goal.returns
returns c o at =
    let there = subst (λ (r : Remaining). slice_get r.options c.args.place ≡ Some o) (sym c.self.view_is) at in
    subst (λ (r : Remaining). IsFront r.journal o c.index.result.now) c.self.view_is (c.self.invariant.fronts.each c.args.place o c.index.result.now there c.index.ensures)
