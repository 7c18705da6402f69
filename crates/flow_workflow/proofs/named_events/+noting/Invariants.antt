use Rattle.std.proofs.Common.{map, take}
use Rattle.flow_model.specs.Folding.{named_events}
use Rattle.flow_model.specs.Lists.{joined}
use Rattle.flow_workflow.specs.NamedEvents.{Notes}
use Rattle.flow_workflow.specs.Rule.{rules_of}
use Rattle.flow_workflow.proofs.named_events.+noting.Given as goal

abbrev pub invariant-note_each-loop-rule : goal.invariant-note_each-loop-rule
invariant-note_each-loop-rule l = Notes (joined (map named_events (rules_of (take l.rule-index l.rules)))) l.initial.named l.named
