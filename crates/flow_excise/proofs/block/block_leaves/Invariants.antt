use Rattle.std.proofs.Common.{◌≡◌, ◌≤◌, ℕ, false, length}
use Rattle.flow_rules.specs.Lanes.{has_event}
use Rattle.flow_excise.specs.Block.{AreLeafCounts, AreShown}
use Rattle.flow_excise.specs.Options.{folded}
use Rattle.flow_excise.proofs.block.block_leaves.Given as goal

abbrev pub invariant-loop-lane : goal.invariant-loop-lane
invariant-loop-lane l = record {
  leaves : AreLeafCounts (folded l.tree l.choices) l.first l.leaves.items;
  size : length l.leaves.items ≡ l.lane;
  shown : AreShown (folded l.tree l.choices) l.first l.lane l.lanes;
  blank : (other event : ℕ) → l.lane ≤ other → has_event l.lanes other event ≡ false;
}
