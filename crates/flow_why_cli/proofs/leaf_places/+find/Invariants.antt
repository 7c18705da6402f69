use Rattle.flow_why_cli.specs.Places.{AreIn}
use Rattle.flow_why_cli.proofs.leaf_places.+find.Given as goal

abbrev pub decreases-find : goal.decreases-find
decreases-find l = l.depth

abbrev pub invariant-loop-number : goal.invariant-loop-number
invariant-loop-number l = AreIn l.text l.places.items
