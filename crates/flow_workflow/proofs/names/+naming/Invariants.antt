use Rattle.std.proofs.Common.{map, take}
use Rattle.flow_model.specs.Folding.{named_events}
use Rattle.flow_model.specs.Lists.{◌∈◌, joined}
use Rattle.flow_workflow.specs.Rule.{rules_of}
use Rattle.flow_workflow.proofs.names.+naming.Given as goal

abbrev pub invariant-some_names-loop-rule : goal.invariant-some_names-loop-rule
invariant-some_names-loop-rule l = ¬ (l.event ∈ joined (map named_events (rules_of (take l.rule-index l.rules))))
