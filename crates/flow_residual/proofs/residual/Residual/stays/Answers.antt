use Rattle.std.proofs.Common.{sym, ◌∙◌}
use Rattle.flow_residual.proofs.SparedLemmas.{others_stay}
use Rattle.flow_residual.proofs.residual.Residual.stays.Goals as goal

pub returns-then-has-clause-beside : goal.returns-then-has-clause-beside
returns-then-has-clause-beside c =
    others_stay c.args.self.now c.args.claims.now c.args.beside.now c.remove.new.self c.args.leaf c.requires c.remove.ensures (sym c.has.ensures ∙ c.if-has.true)
