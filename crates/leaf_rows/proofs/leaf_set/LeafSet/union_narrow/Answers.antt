use Rattle.std.proofs.Common.{arith}
use Rattle.leaf_rows.specs.Leaves.{has_leaf}
use Rattle.leaf_rows.proofs.Rows.{union_narrow_in_words}
use Rattle.leaf_rows.proofs.leaf_set.LeafSet.union_narrow.Goals as goal

pub returns : goal.returns
unfolding has_leaf
returns g c = λ n. union_narrow_in_words g.row.W g.row.V c.args.self.now.words c.args.other.now.words c.loop-i.self.words c.loop-i.i n
    (omega arith) c.requires c.loop-i-test.false c.loop-i.invariant.joined c.loop-i.invariant.kept
