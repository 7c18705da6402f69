-- Whether one leaf of a goal stands before another, as a test.
use Rattle.std.specs.Prelude.{ℕ, false, ◌&&◌, ◌||◌, ◌==◌}
use Rattle.flow_model.specs.Process.{Process, Empty, Task, Sequence, Parallel, Choice, Isolated}
use Rattle.flow_names.specs.declared.sequence.Seen.{Seen}

-- what is seen of two leaves in a sequence of two goals
abbrev pub with_sequence : Seen → Seen → Seen
with_sequence left right = record {
  first = left.first || right.first;
  second = left.second || right.second;
  in_sequence = left.first && right.second || left.in_sequence || right.in_sequence;
}

-- and in two of which neither stands before the other
abbrev pub with_both : Seen → Seen → Seen
with_both left right = record {
  first = left.first || right.first;
  second = left.second || right.second;
  in_sequence = left.in_sequence || right.in_sequence;
}

-- what is seen of two leaves in a goal
abbrev pub seen_in : Process → ℕ → ℕ → Seen
seen_in Empty x y = record { first = false; second = false; in_sequence = false }
seen_in (Task n) x y = record { first = n == x; second = n == y; in_sequence = false }
seen_in (Sequence a b) x y = with_sequence (seen_in a x y) (seen_in b x y)
seen_in (Parallel a b) x y = with_both (seen_in a x y) (seen_in b x y)
seen_in (Choice a b) x y = with_both (seen_in a x y) (seen_in b x y)
seen_in (Isolated a) x y = seen_in a x y
