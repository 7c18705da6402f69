use Rattle.std.proofs.Common.{◌≡◌, max, drop}
use Rattle.flow_svg.specs.Notes.{notes_width}
use Rattle.flow_svg.proofs.notes.notes_width.Given as goal

abbrev pub invariant-loop-rule : goal.invariant-loop-rule
invariant-loop-rule l = max l.width (notes_width (drop l.rule-index l.rules)) ≡ notes_width l.rules
