use Rattle.std.proofs.Common.{◌≡◌, ℕ, length, take}
use Rattle.std.specs.Option.{option_or}
use Rattle.flow_model.specs.Ways.{leaf_of_event}
use Rattle.flow_rules.specs.EventLeaves.{leaf_in}
use Rattle.flow_rules.specs.Room.{HasRoom}
use Rattle.flow_rules.proofs.event_leaves.note_events.Given as goal

abbrev pub invariant-loop-leaf : goal.invariant-loop-leaf
invariant-loop-leaf l = record {
  room : HasRoom l.tree.labels l.leaves (length l.events.leaves.items);
  noted : (event : ℕ) →
      leaf_in l.events event ≡ option_or (leaf_in l.fn.events event) (leaf_of_event l.tree.labels (take l.leaf-index l.leaves) event);
}
