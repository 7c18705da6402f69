use Rattle.std.proofs.Common.{◌≡◌, ◌+◌, ◌*◌, ◌≤◌, ◌++◌, map, length}
use Rattle.flow_model.specs.declared.limits.TheConstants.{MOST_LEAVES}
use Rattle.flow_form.specs.Form.{shape_of}
use Rattle.flow_gen.specs.Generated.{pairs}
use Rattle.flow_gen.proofs.goals.pairs_of.Given as goal

abbrev pub invariant-loop-rest : goal.invariant-loop-rest
invariant-loop-rest l = (l.first + 8 * length l.rest ≤ MOST_LEAVES) × (map shape_of l.forms.items ++ pairs l.first l.rest ≡ pairs 0 l.kinds)

abbrev pub decreases-loop-rest : goal.decreases-loop-rest
decreases-loop-rest l = length l.rest
