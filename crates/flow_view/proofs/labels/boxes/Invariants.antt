use Rattle.std.proofs.Common.{◌≡◌, map}
use Rattle.flow_model.specs.Lists.{numbers_from}
use Rattle.flow_view.specs.Texts.{box_text}
use Rattle.flow_view.proofs.labels.boxes.Given as goal

abbrev pub invariant-loop-leaf : goal.invariant-loop-leaf
invariant-loop-leaf l = l.boxes.items ≡ map (box_text l.workflow) (numbers_from 0 l.leaf)
