-- Goals of Concurrent Transaction Logic (Bonner and Kifer 1996), as data without pointers.
use Rattle.std.specs.Prelude.{◌≡◌, ℕ, List, [], ◌∷◌, ◌++◌}
use Rattle.flow_model.specs.Lists.{numbers_from}

pub data Process : Type 0 where
  -- nothing is left to do
  Empty : Process
  -- the leaf of that number
  Task : ℕ → Process
  -- the first, and then the second
  Sequence : Process → Process → Process
  -- both, beside one another
  Parallel : Process → Process → Process
  -- one of the two
  Choice : Process → Process → Process
  -- with nothing from outside in between
  Isolated : Process → Process

-- the leaves from left to right
abbrev pub leaves : Process → List ℕ
leaves Empty = []
leaves (Task n) = n ∷ []
leaves (Sequence a b) = leaves a ++ leaves b
leaves (Parallel a b) = leaves a ++ leaves b
leaves (Choice a b) = leaves a ++ leaves b
leaves (Isolated a) = leaves a

-- the leaves from left to right are 0, 1, .. below the count
abbrev pub IsNumbered : Process → ℕ → Type 0
IsNumbered g count = leaves g ≡ numbers_from 0 count

-- there is no choice in it
abbrev pub IsChoiceFree : Process → Type 0
IsChoiceFree Empty = Unit {0}
IsChoiceFree (Task n) = Unit {0}
IsChoiceFree (Sequence a b) = IsChoiceFree a × IsChoiceFree b
IsChoiceFree (Parallel a b) = IsChoiceFree a × IsChoiceFree b
IsChoiceFree (Choice a b) = ⊥
IsChoiceFree (Isolated a) = IsChoiceFree a
