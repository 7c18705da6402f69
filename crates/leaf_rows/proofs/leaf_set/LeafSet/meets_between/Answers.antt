use Rattle.std.specs.Prelude.{IsTrue}
use Rattle.leaf_rows.specs.Leaves.{has_leaf}
use Rattle.leaf_rows.proofs.Rows.{found_common}
use Rattle.leaf_rows.proofs.leaf_set.LeafSet.meets_between.Goals as goal

pub returns : goal.returns
returns g c =
    found_common c.first_common_between.result c.is_some.result (λ k. IsTrue (has_leaf {w = g.row.W} c.args.self.now k)) (λ k. IsTrue (has_leaf {w = g.row.W} c.args.other.now k))
    c.is_some.ensures c.first_common_between.ensures.none c.first_common_between.ensures.member
