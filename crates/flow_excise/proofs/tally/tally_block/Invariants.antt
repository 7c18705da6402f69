use Rattle.std.proofs.Common.{◌+◌}
use Rattle.flow_model.specs.Ways.{Normal}
use Rattle.flow_excise.specs.Block.{AreLeafCounts, AreShown, HasWays}
use Rattle.flow_excise.specs.Options.{FoldedTree}
use Rattle.flow_excise.specs.Tally.{IsCountedTo}
use Rattle.flow_excise.proofs.tally.tally_block.Given as goal

abbrev pub invariant-loop-lane : goal.invariant-loop-lane
invariant-loop-lane l = (t : FoldedTree) (normal : Normal) → AreLeafCounts t l.block.first l.block.leaves.items → AreShown t l.block.first l.block.size l.lanes →
    HasWays t normal l.block → IsCountedTo t normal l.block.first l.fn.counted → IsCountedTo t normal (l.block.first + l.lane) l.counted
