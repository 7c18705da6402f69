-- Facts that are tested and never added, and the other way round.
use Rattle.std.specs.Prelude.{ℕ, Bool, false, ◌==◌, ◌||◌, IsTrue, List}
use Rattle.std.specs.List.{list_any}
use Rattle.flow_model.specs.declared.labels.Label.{Label}
use Rattle.flow_model.specs.declared.labels.Label.TheVariants.{Event, Test, Absent, Ins, Del}

-- the label asks whether the fact holds
abbrev pub asks : ℕ → Label → Bool
asks fact (Event e) = false
asks fact (Test f) = f == fact
asks fact (Absent f) = f == fact
asks fact (Ins f) = false
asks fact (Del f) = false

-- the label adds it
abbrev pub adds : ℕ → Label → Bool
adds fact (Event e) = false
adds fact (Test f) = false
adds fact (Absent f) = false
adds fact (Ins f) = f == fact
adds fact (Del f) = false

-- some leaf asks whether it holds
abbrev pub is_tested : List Label → ℕ → Bool
is_tested labels fact = list_any (asks fact) labels

-- it holds at the start, or some leaf adds it
abbrev pub is_added : List Label → List ℕ → ℕ → Bool
is_added labels held fact = list_any (λ f. f == fact) held || list_any (adds fact) labels

-- it is tested, and never added
abbrev pub IsNeverAdded : List Label → List ℕ → ℕ → Type 0
IsNeverAdded labels held fact = IsTrue (is_tested labels fact) × ¬ (IsTrue (is_added labels held fact))

-- it is added, and never tested
abbrev pub IsNeverTested : List Label → List ℕ → ℕ → Type 0
IsNeverTested labels held fact = IsTrue (is_added labels held fact) × ¬ (IsTrue (is_tested labels fact))
