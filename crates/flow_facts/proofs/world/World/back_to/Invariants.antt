use Rattle.std.proofs.Common.{◌≡◌, ◌≤◌, length, take}
use Rattle.flow_facts.proofs.world.World.back_to.Given as goal

-- a front of the labels is left
abbrev pub invariant-loop-self : goal.invariant-loop-self
invariant-loop-self l = record {
  front : l.self ≡ record l.initial.self { labels = take (length l.self.labels) l.initial.self.labels };
  enough : l.kept ≤ length l.self.labels;
}

abbrev pub decreases-loop-self : goal.decreases-loop-self
decreases-loop-self l = length l.self.labels
