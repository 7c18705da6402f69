use denote.Text.{Utf8}
use denote.Shadow.{shadow}
use Rattle.flow_why_cli.proofs.refusal_words.push_leaf.Given as goal

-- what stands before the next place is text
abbrev pub invariant-loop-place : goal.invariant-loop-place
invariant-loop-place l =
    (goal.iterator-loop-place).can_next l.place-iterator ×
    (goal.iterator-loop-place).is_finite l.place-iterator ×
    shadow (Utf8 l.before)
