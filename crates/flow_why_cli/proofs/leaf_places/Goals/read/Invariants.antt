use Rattle.flow_why_cli.specs.Places.{AtomsAreIn}
use Rattle.flow_why_cli.proofs.leaf_places.Goals.read.Given as goal

abbrev pub invariant-loop-token : goal.invariant-loop-token
invariant-loop-token l = AtomsAreIn l.text l.self.atoms.items
