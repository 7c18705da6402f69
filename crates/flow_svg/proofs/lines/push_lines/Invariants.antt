use Rattle.std.proofs.Common.{◌≡◌, ◌+◌, ◌*◌, ◌++◌, length}
use Rattle.flow_svg.specs.Lines.{lines_text, wrapped}
use Rattle.flow_svg.proofs.lines.push_lines.Given as goal

abbrev pub invariant-lines : goal.invariant-lines
invariant-lines l =
    (l.text.items ++ lines_text l.y (wrapped l.rest) ≡ l.initial.text.items ++ lines_text l.top (wrapped l.words))
    × (l.y + 20 * length (wrapped l.rest) ≡ l.top + 20 * length (wrapped l.words))

abbrev pub decreases-lines : goal.decreases-lines
decreases-lines l = length l.rest
