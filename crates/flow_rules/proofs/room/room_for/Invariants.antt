use Rattle.flow_rules.specs.Room.{HasRoomTo}
use Rattle.flow_rules.proofs.room.room_for.Given as goal

abbrev pub invariant-loop-leaf : goal.invariant-loop-leaf
invariant-loop-leaf l = HasRoomTo l.tree.labels l.leaves l.leaf-index l.room
