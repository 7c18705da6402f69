use Rattle.std.proofs.Common.{arith, refl}
use Rattle.std.proofs.lemmas.Bool.{false≢true}
use Rattle.leaf_rows.specs.Leaves.{has_leaf}
use Rattle.leaf_rows.proofs.Rows.{has_bit_least, within_by_words}
use Rattle.leaf_rows.proofs.leaf_set.LeafSet.is_within.Goals as goal

pub returns-then-self-i-ne0 : goal.returns-then-self-i-ne0
unfolding has_leaf
returns-then-self-i-ne0 g c = (
  λ wrong. absurd (false≢true wrong),
  λ all. let below = all _ (has_bit_least g.row.W c.args.self.now.words c.loop-i.i (omega arith) c.if-self-i-ne0.true (omega arith)) in absurd (omega (arith, below)),
)

pub returns : goal.returns
unfolding has_leaf
returns g c = (
  λ _ k has. within_by_words g.row.W g.row.V c.args.self.now.words c.loop-i.i c.loop-i-test.false c.loop-i.invariant k has,
  λ _. refl,
)
