use Rattle.std.proofs.Common.{◌+◌, ◌*◌, arith}
use Rattle.leaf_rows.specs.Leaves.{has_bit, has_leaf}
use Rattle.leaf_rows.proofs.Members.{members_rise}
use Rattle.leaf_rows.proofs.Counts.{passing_length, members_more}
use Rattle.leaf_rows.proofs.leaf_set.LeafSet.count.Goals as goal

pub overflow_add-count : goal.overflow_add-count
unfolding has_leaf
overflow_add-count g c =
    let words = c.args.self.now.words in
    let sized = c.args.self.now.sized in
    let more = members_more g.row.W words c.loop-i.i (omega arith) (omega arith) in
    let bound = passing_length (has_bit g.row.W words) (64 * (c.loop-i.i + 1)) in
    omega (arith, more, bound, sized, c.loop-i.invariant)

pub loop-i-preserved : goal.loop-i-preserved
unfolding has_leaf
loop-i-preserved g c =
    let more = members_more g.row.W c.args.self.now.words c.loop-i.i (omega arith) (omega arith) in
    omega (arith, more, c.loop-i.invariant)

pub returns-clause-rising : goal.returns-clause-rising
returns-clause-rising g c = members_rise c.args.self.now
