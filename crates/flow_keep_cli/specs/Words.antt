-- What the words of a call ask for: a path, and how many steps a history may have.
use Rattle.std.specs.Prelude.{◌≡◌, ◌≤◌, ℕ, List, [], ◌∷◌, length, slice_get, Some, codes}
use Rattle.std.specs.Str.Parse.{IsNumeral, digits_value}
use Rattle.flow_model.specs.declared.limits.TheConstants.{MOST_ENTRIES}

-- so many steps a history can be limited to
abbrev pub IsStepCount : ℕ → Type 0
IsStepCount steps = (1 ≤ steps) × (steps ≤ MOST_ENTRIES)

-- the word is one to ten digits, and they write a number of steps that a history can be limited to
pub record IsSteps (word : List ℕ) (steps : ℕ) : Type 0 where
  pub numeral : IsNumeral 10 word
  pub short : length word ≤ 10
  pub value : steps ≡ digits_value 10 word
  pub within : IsStepCount steps

-- the word behind the program's name asks for help
abbrev pub IsHelp : List (List ℕ) → Type 0
IsHelp words = slice_get words 1 ≡ Some (codes "--help")

-- how many they are where the words do not say so
abbrev pub default_steps : ℕ
default_steps = 65536

-- the words are the program's name, a path, and where there are more, the option with its number
abbrev pub IsCall : List (List ℕ) → List ℕ → ℕ → Type 0
IsCall (name ∷ file ∷ []) path steps = (path ≡ file) × (steps ≡ default_steps)
IsCall (name ∷ file ∷ option ∷ number ∷ []) path steps = (path ≡ file) × (option ≡ codes "--steps") × IsSteps number steps
IsCall other path steps = ⊥

-- the words are a call for nothing
abbrev pub IsNoCall : List (List ℕ) → Type 0
IsNoCall words = (path : List ℕ) (steps : ℕ) → ¬ (IsCall words path steps)
