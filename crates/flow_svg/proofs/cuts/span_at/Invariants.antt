use Rattle.std.proofs.Common.{◌≡◌, drop}
use Rattle.flow_svg.specs.Cuts.{span_at}
use Rattle.flow_svg.proofs.cuts.span_at.Given as goal

abbrev pub invariant-loop-span : goal.invariant-loop-span
invariant-loop-span l = span_at l.spans l.place ≡ span_at (drop l.span-index l.spans) l.place
