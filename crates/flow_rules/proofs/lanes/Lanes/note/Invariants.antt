use Rattle.std.proofs.Common.{◌≡◌, ◌==◌, ◌&&◌, ◌||◌, ℕ, length, take}
use Rattle.std.specs.Prelude.{is_some}
use Rattle.flow_model.specs.Ways.{leaf_of_event}
use Rattle.flow_rules.specs.Lanes.{has_event}
use Rattle.flow_rules.specs.Room.{HasRoom}
use Rattle.flow_rules.proofs.lanes.Lanes.note.Given as goal

abbrev pub invariant-loop-leaf : goal.invariant-loop-leaf
invariant-loop-leaf l = record {
  room : HasRoom l.tree.labels l.leaves (length l.self.words.items);
  noted : (other event : ℕ) → has_event l.self other event
      ≡ (other == l.lane && is_some (leaf_of_event l.tree.labels (take l.leaf-index l.leaves) event) || has_event l.fn.self other event);
}
