use Rattle.leaf_rows.specs.Leaves.{has_leaf}
use Rattle.leaf_rows.proofs.Rows.{union_in_words}
use Rattle.leaf_rows.proofs.leaf_set.LeafSet.union_between.Goals as goal

pub returns : goal.returns
unfolding has_leaf
returns g c = λ n. union_in_words g.row.W c.args.self.now.words c.args.other.now.words c.loop-i.self.words c.args.from c.args.to c.loop-i.i n c.loop-i-test.false
    c.loop-i.invariant.joined c.loop-i.invariant.before c.loop-i.invariant.kept (c.requires.lies n)
