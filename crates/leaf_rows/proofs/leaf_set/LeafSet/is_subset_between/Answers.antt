use Rattle.std.proofs.Common.{arith, refl}
use Rattle.std.proofs.lemmas.Bool.{false≢true}
use Rattle.leaf_rows.specs.Leaves.{has_leaf}
use Rattle.leaf_rows.proofs.Rows.{part_has, no_bit_over, part_more}
use Rattle.leaf_rows.proofs.leaf_set.LeafSet.is_subset_between.Goals as goal

pub returns-then-self-i-ne0 : goal.returns-then-self-i-ne0
unfolding has_leaf
returns-then-self-i-ne0 g c = (
  (λ impossible. absurd (false≢true impossible)),
  (λ part. absurd (c.if-self-i-ne0.true (no_bit_over _ _ _ c.loop-i.i (omega arith) (omega arith) (omega arith) part))),
)

pub returns : goal.returns
unfolding has_leaf
returns g c = (
  (λ _ k has. let (least, most) = c.requires.lies k has in
      part_has g.row.W c.args.self.now.words c.args.other.now.words k (c.loop-i.invariant k least (omega (arith, most, c.loop-i-test.false))) has),
  (λ _. refl),
)

pub loop-i-preserved : goal.loop-i-preserved
loop-i-preserved g c = λ k least. part_more c.args.self.now.words c.args.other.now.words c.loop-i.i (omega arith) (omega arith) k (c.loop-i.invariant k least)
