use Rattle.std.proofs.Common.{length, eqb-true, eq-eqb, sym, ap, ◌∙◌}
use Rattle.flow_residual.proofs.FrontLemmas.{ready_whole}
use Rattle.flow_residual.proofs.residual.Residual.follows.Goals as goal

pub returns : goal.returns
returns c o at =
    let front = c.front.result in
    let whole = ready_whole o c.args.self.now.journal front (c.front.ensures o at) in
    let len = ap length c.journal.ensures.leaves in
    (λ told. whole.0 (eqb-true front (length c.journal.result.now) told ∙ len), λ ready. eq-eqb front (length c.journal.result.now) (whole.1 ready ∙ sym len))
