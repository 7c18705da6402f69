use Rattle.std.proofs.Common.{arith, ◌/◌}
use Rattle.leaf_rows.specs.Leaves.{has_leaf}
use Rattle.leaf_rows.proofs.Rows.{least_common, none_common_before, no_common_bit}
use Rattle.leaf_rows.proofs.leaf_set.LeafSet.first_common_between.Goals as goal

pub returns-then-common-ne0-clause-member : goal.returns-then-common-ne0-clause-member
unfolding has_leaf
returns-then-common-ne0-clause-member g c =
    least_common _ _ _ c.loop-i.i (omega arith) (omega arith) c.if-common-ne0.true

pub returns-then-common-ne0-clause-least : goal.returns-then-common-ne0-clause-least
unfolding has_leaf
returns-then-common-ne0-clause-least g c = λ k before here there. let (least, most) = c.requires.lies k here in
    none_common_before g.row.W _ _ c.loop-i.i (omega arith) c.if-common-ne0.true k (λ lower. c.loop-i.invariant (k / 64) (omega (arith, least)) lower) before here there

pub returns-clause-none : goal.returns-clause-none
unfolding has_leaf
returns-clause-none g c = λ k here there. let (least, most) = c.requires.lies k here in
    no_common_bit g.row.W c.args.self.now.words c.args.other.now.words k (c.loop-i.invariant (k / 64) (omega (arith, least)) (omega (arith, most, c.loop-i-test.false))) here there
