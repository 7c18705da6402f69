-- What the laws ask of workflows and options: well-formed, consistent, ordered.
use Rattle.std.specs.Prelude.{◌≢◌, ℕ, List, [], ◌∷◌, length}
use Rattle.flow_model.specs.Lists.{◌∈◌, Each, AreDistinct}
use Rattle.flow_model.specs.Process.{Process, leaves, IsChoiceFree, IsNumbered}
use Rattle.flow_model.specs.Schema.{Schema, IsGood, HasUniqueEvents}

-- both leaves of each pair are leaves of the goal
abbrev pub AreOfLeaves : Process → List (ℕ × ℕ) → Type 0
AreOfLeaves q pairs = Each (λ pair. (pair.0 ∈ leaves q) × (pair.1 ∈ leaves q)) pairs

-- what every resolution and way of a workflow has: no choice is left, no leaf stands twice, and each pair is of
-- two different leaves
pub record IsOrdered (q : Process) (pairs : List (ℕ × ℕ)) : Type 0 where
  pub choice_free : IsChoiceFree q
  pub distinct : AreDistinct (leaves q)
  pub of_leaves : AreOfLeaves q pairs
  pub different : Each (λ pair. pair.0 ≢ pair.1) pairs

-- what every workflow that is read and expanded has: its leaves are numbered from the left, one label each, and no
-- execution holds an event twice
pub record IsWellFormed (w : Schema) : Type 0 where
  pub numbered : IsNumbered w.goal (length w.labels)
  pub unique : HasUniqueEvents w

-- some execution meets every constraint
abbrev pub IsConsistent : Schema → Type 0
IsConsistent w = (t : List ℕ) × IsGood w t

-- R holds of each two members at different places, both ways
abbrev pub EachTwo : {A : Type 0} → (A → A → Type 0) → List A → Type 0
EachTwo R [] = Unit {0}
EachTwo R (x ∷ xs) = Each (λ y. R x y × R y x) xs × EachTwo R xs
