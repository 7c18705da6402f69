use Rattle.std.proofs.Common.{take}
use Rattle.flow_workflow.specs.Rule.{rules_of}
use Rattle.flow_view.specs.Arrows.{arrows_from}
use Rattle.flow_view.specs.Told.{AreTold}
use Rattle.flow_view.proofs.arrows.arrows_of.Given as goal

abbrev pub invariant-loop-number : goal.invariant-loop-number
invariant-loop-number l = AreTold l.arrows (arrows_from l.tree.labels 0 (rules_of (take l.number l.rules)))
