-- What the leaves of a goal that have an event come to.
use Rattle.std.specs.Prelude.{ℕ, Bool, ◌==◌, if◌then◌else◌, Option, Some, None}
use Rattle.flow_model.specs.Process.{Process, Empty, Task, Sequence, Parallel, Choice, Isolated}
use Rattle.flow_goal.specs.declared.occurrence.Occurrence.{Occurrence}
use Rattle.flow_goal.specs.declared.occurrence.Occurrence.TheVariants.{Never, Once, Again}

abbrev pub first : Occurrence → Option ℕ
first Never = None
first (Once n) = Some n
first (Again n x y) = Some n

-- two parts that both stay, the second with that first leaf
abbrev pub joined : Occurrence → Occurrence → Option ℕ → Occurrence
joined left right None = left
joined Never right (Some m) = right
joined (Once n) right (Some m) = Again n n m
joined (Again n x y) right (Some m) = if x == n then Again n x y else Again n n m

abbrev pub in_both : Occurrence → Occurrence → Occurrence
in_both left right = joined left right (first right)

abbrev pub in_choice : Occurrence → Occurrence → Occurrence
in_choice Never right = right
in_choice (Once n) Never = Once n
in_choice (Once n) (Once m) = Once n
in_choice (Once n) (Again m x y) = Again n x y
in_choice (Again n x y) right = Again n x y

-- the leaves that pass the test
abbrev pub occurrence_in : (ℕ → Bool) → Process → Occurrence
occurrence_in passes Empty = Never
occurrence_in passes (Task n) = if passes n then Once n else Never
occurrence_in passes (Sequence a b) = in_both (occurrence_in passes a) (occurrence_in passes b)
occurrence_in passes (Parallel a b) = in_both (occurrence_in passes a) (occurrence_in passes b)
occurrence_in passes (Choice a b) = in_choice (occurrence_in passes a) (occurrence_in passes b)
occurrence_in passes (Isolated a) = occurrence_in passes a
