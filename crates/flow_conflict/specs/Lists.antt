-- Words on lists of numbers.
use Rattle.std.specs.Prelude.{◌<◌, ◌==◌, ℕ, List, [], ◌∷◌, filter, not}
use Rattle.flow_model.specs.Lists.{◌∈◌, Each}

-- each member of the first list is one of the second
abbrev pub IsAmong : List ℕ → List ℕ → Type 0
IsAmong fewer more = (x : ℕ) → x ∈ fewer → x ∈ more

-- each number is below all that follow it
abbrev pub IsRising : List ℕ → Type 0
IsRising [] = Unit {0}
IsRising (x ∷ xs) = Each (λ y. x < y) xs × IsRising xs

-- the list without that number
abbrev pub without : List ℕ → ℕ → List ℕ
without xs x = filter (λ y. not (y == x)) xs
