use Rattle.std.proofs.Common.{◌≤◌, take}
use Rattle.flow_plan.specs.Parts.{ArePartsFor, Reaches}
use Rattle.flow_plan.proofs.parts.rows_of_spans.Given as goal

abbrev pub invariant-loop-span : goal.invariant-loop-span
invariant-loop-span g l =
    ArePartsFor l.leaves l.before (take l.span-index l.spans) l.parts.items × Reaches l.leaves l.before l.reach × (l.reach.span.first ≤ l.reach.span.end)
