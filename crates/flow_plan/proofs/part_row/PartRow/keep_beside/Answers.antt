use Rattle.std.proofs.Common.{not}
use Rattle.leaf_rows.specs.Leaves.{has_leaf}
use Rattle.flow_plan.proofs.KeepLemmas.{kept_where, keeps_beside_inside, keeps_beside_outside}
use Rattle.flow_plan.proofs.part_row.PartRow.keep_beside.Goals as goal

pub returns : goal.returns
returns g c n =
    let row = c.args.self.now in
    let claims = c.args.claims.now in
    let within = c.is_subset-inner.result in
    let meets = c.meets-outer.result in
    kept_where (has_leaf c.keep.result n) (has_leaf c.args.leaves n) (has_leaf row.inside n) within (not meets) _ (c.keep.ensures n)
    (keeps_beside_inside row claims n within meets c.is_subset-inner.ensures c.meets-outer.ensures)
    (keeps_beside_outside row claims n within meets c.is_subset-inner.ensures c.meets-outer.ensures)
