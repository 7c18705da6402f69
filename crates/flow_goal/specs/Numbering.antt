-- Counting leaves from left to right, as far as they are numbered so.
use Rattle.std.specs.Prelude.{ℕ, ◌+◌, ◌==◌, nat_lt, if◌then◌else◌, Option, Some, None}
use Rattle.std.specs.Option.{option_and_then}
use Rattle.flow_model.specs.Process.{Process, Empty, Task, Sequence, Parallel, Choice, Isolated}

-- the number after the leaves, if they are numbered onwards from next and stay below the end
abbrev pub number_after : Process → ℕ → ℕ → Option ℕ
number_after Empty next last = Some next
number_after (Task n) next last = if n == next then (if nat_lt next last then Some (next + 1) else None) else None
number_after (Sequence a b) next last = option_and_then (λ middle. number_after b middle last) (number_after a next last)
number_after (Parallel a b) next last = option_and_then (λ middle. number_after b middle last) (number_after a next last)
number_after (Choice a b) next last = option_and_then (λ middle. number_after b middle last) (number_after a next last)
number_after (Isolated a) next last = number_after a next last
