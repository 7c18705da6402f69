use Rattle.std.proofs.Common.{◌≤◌, drop, length}
use Rattle.flow_model.specs.Lists.{Each}
use Rattle.flow_plan.specs.Known.{AreLaidOut, IsKnown}
use Rattle.flow_plan.specs.Parts.{PartAllows}
use Rattle.flow_plan.proofs.table.Table.refusing.Given as goal

abbrev pub invariant-loop-rest : goal.invariant-loop-rest
invariant-loop-rest g l = (l.rest ≤ length l.self.parts.items) × (l.rest ≤ length l.self.spans.items) × (AreLaidOut l.leaves l.self.spans.items l.self.parts.items →
    IsKnown (λ row. PartAllows row l.sides l.leaf) l.leaves l.known × Each (λ row. PartAllows row l.sides l.leaf) (drop l.rest l.self.parts.items))

abbrev pub decreases-loop-rest : goal.decreases-loop-rest
decreases-loop-rest g l = l.rest
