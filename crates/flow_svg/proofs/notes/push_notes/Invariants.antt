use Rattle.std.proofs.Common.{◌≡◌, ◌++◌, drop}
use Rattle.flow_svg.specs.Notes.{notes_text, notes_bottom}
use Rattle.flow_svg.proofs.notes.push_notes.Given as goal

abbrev pub invariant-loop-number : goal.invariant-loop-number
invariant-loop-number l =
    (l.text.items ++ notes_text l.y l.number (drop l.number l.rules) ≡ l.initial.text.items ++ notes_text l.top 0 l.rules)
    × (notes_bottom l.y (drop l.number l.rules) ≡ notes_bottom l.top l.rules)
