use Rattle.std.proofs.Common.{◌≡◌}
use Rattle.std.specs.List.{filter}
use Rattle.flow_model.specs.Facts.{event_at, is_event}
use Rattle.flow_model.specs.Lists.{numbers_from}
use Rattle.flow_view.proofs.arrows.leaves_of.Given as goal

abbrev pub invariant-loop-leaf : goal.invariant-loop-leaf
invariant-loop-leaf l = l.leaves.items ≡ filter (λ n. is_event l.event (event_at l.tree.labels n)) (numbers_from 0 l.leaf)
