use Rattle.std.proofs.Common.{sym, ◌∙◌}
use Rattle.flow_plan.proofs.Cuts.{wide_same}
use Rattle.flow_residual.proofs.residual.Residual.all_by_rows.Goals as goal

pub returns : goal.returns
returns g c = λ leaf.
    let same = wide_same c.all_cut-found.result c.resized.result c.requires.wide c.resized.ensures leaf in
    (λ has. (c.all_cut-found.ensures leaf).0 (sym same ∙ has), λ some. same ∙ (c.all_cut-found.ensures leaf).1 some)
