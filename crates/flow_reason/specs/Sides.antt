-- What a goal alone tells of a leaf, where some leaves are done.
use Rattle.std.specs.Prelude.{ℕ, Bool, false, ◌||◌, ◌==◌, if◌then◌else◌, is_some, List, [], ◌∷◌, ◌++◌, Option, Some, None}
use Rattle.flow_model.specs.Process.{Process, Empty, Task, Sequence, Parallel, Choice, Isolated}

-- some leaf of the goal passes the test
abbrev pub has : (ℕ → Bool) → Process → Bool
has test Empty = false
has test (Task n) = test n
has test (Sequence a b) = has test a || has test b
has test (Parallel a b) = has test a || has test b
has test (Choice a b) = has test a || has test b
has test (Isolated a) = has test a

-- the first, if there is one, else the second
abbrev pub or_else : Option ℕ → Option ℕ → Option ℕ
or_else None other = other
or_else (Some n) other = Some n

-- the first leaf that passes the test
abbrev pub first : (ℕ → Bool) → Process → Option ℕ
first test Empty = None
first test (Task n) = if test n then Some n else None
first test (Sequence a b) = or_else (first test a) (first test b)
first test (Parallel a b) = or_else (first test a) (first test b)
first test (Choice a b) = or_else (first test a) (first test b)
first test (Isolated a) = first test a

-- leaves not done that each trace has: those of no choice, and of the side that is begun
abbrev pub certain : (ℕ → Bool) → Process → List ℕ
certain done Empty = []
certain done (Task n) = if done n then [] else n ∷ []
certain done (Sequence a b) = certain done a ++ certain done b
certain done (Parallel a b) = certain done a ++ certain done b
certain done (Choice a b) = if is_some (first done a) then certain done a else (if is_some (first done b) then certain done b else [])
certain done (Isolated a) = certain done a

-- leaves not done that stand before the leaf in each trace that has it
abbrev pub before : (ℕ → Bool) → ℕ → Process → List ℕ
before done leaf Empty = []
before done leaf (Task n) = []
before done leaf (Sequence a b) = if has (λ n. n == leaf) b then certain done a ++ before done leaf b else before done leaf a
before done leaf (Parallel a b) = before done leaf a ++ before done leaf b
before done leaf (Choice a b) = before done leaf a ++ before done leaf b
before done leaf (Isolated a) = before done leaf a

-- a leaf that is done, on the other side of a choice above both
abbrev pub other_side : (ℕ → Bool) → ℕ → Process → Option ℕ
other_side done leaf Empty = None
other_side done leaf (Task n) = None
other_side done leaf (Sequence a b) = or_else (other_side done leaf a) (other_side done leaf b)
other_side done leaf (Parallel a b) = or_else (other_side done leaf a) (other_side done leaf b)
other_side done leaf (Choice a b) =
    if has (λ n. n == leaf) a then or_else (first done b) (other_side done leaf a)
    else (if has (λ n. n == leaf) b then or_else (first done a) (other_side done leaf b) else None)
other_side done leaf (Isolated a) = other_side done leaf a
