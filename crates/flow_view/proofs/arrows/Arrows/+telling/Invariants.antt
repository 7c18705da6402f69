use Rattle.std.proofs.Common.{take}
use Rattle.std.specs.List.{flat_map}
use Rattle.flow_workflow.specs.Rule.{rules_of}
use Rattle.flow_view.specs.Arrows.{arrows_between, ordered}
use Rattle.flow_view.specs.Told.{Adds}
use Rattle.flow_view.proofs.arrows.Arrows.+telling.Given as goal

abbrev pub invariant-put_each_rule-loop-rule : goal.invariant-put_each_rule-loop-rule
invariant-put_each_rule-loop-rule l =
    Adds (flat_map (arrows_between l.tree.labels l.number) (flat_map ordered (rules_of (take l.rule-index l.rules)))) l.initial.self l.self
