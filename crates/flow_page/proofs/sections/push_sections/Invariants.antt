use Rattle.std.proofs.Common.{◌≡◌, ◌++◌, drop}
use Rattle.flow_page.specs.Sections.{sections_text}
use Rattle.flow_page.proofs.sections.push_sections.Given as goal

abbrev pub invariant-loop-number : goal.invariant-loop-number
invariant-loop-number l =
    l.text.items ++ sections_text l.number (drop l.number l.sections) ≡ l.initial.text.items ++ sections_text 0 l.sections
