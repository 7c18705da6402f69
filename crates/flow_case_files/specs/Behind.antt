-- What a file has behind the bytes that mean something.
use Rattle.std.specs.Prelude.{ℕ, ◌==◌, if◌then◌else◌, List, [], ◌∷◌, length}

-- how many bytes that is: a lone one that ends what stands before it is none
abbrev pub behind_in : ℕ → List ℕ → ℕ
behind_in end [] = 0
behind_in end (b ∷ []) = if b == end then 0 else 1
behind_in end (b ∷ other ∷ more) = length (b ∷ other ∷ more)
