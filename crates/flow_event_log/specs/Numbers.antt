-- Texts that are numbered as they come.
use Rattle.std.specs.Prelude.{◌≡◌, ◌⊎◌, ℕ, List, [], ◌∷◌, ◌++◌, Contains}

-- the text has a number in the new names: it had it in the old ones, or it is new, and comes last
abbrev pub IsNumberedIn : List (List ℕ) → List ℕ → List (List ℕ) → Type 0
IsNumberedIn old text new = (Contains old text × (new ≡ old)) ⊎ (¬ Contains old text × (new ≡ old ++ text ∷ []))
