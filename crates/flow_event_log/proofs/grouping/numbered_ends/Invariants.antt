use Rattle.flow_event_log.specs.Ends.{ArePlaced, HavePlaces}
use Rattle.flow_event_log.proofs.grouping.numbered_ends.Given as goal

abbrev pub invariant-loop-end : goal.invariant-loop-end
invariant-loop-end l = ArePlaced l.tree.steps.items l.places.items l.sequences.items
    × HavePlaces l.tree.steps.items l.ends l.sequences.items l.end-index l.of_cases.items
