-- Lists of entries, each of which names a caller.
use Rattle.std.specs.Prelude.{◌≡◌, ℕ, ◌==◌, List, ◌++◌, Option, Some}
use Rattle.std.specs.List.{filter}
use Rattle.flow_model.specs.Lists.{Begins, Each}

module _ {E : Type 0} (caller : E → ℕ) where
  -- the entries that name this caller, in order
  abbrev pub made_by : ℕ → List E → List E
  made_by number entries = filter (λ e. caller e == number) entries

  -- the list gained entries at its end, each of which names this caller
  abbrev pub Grows : ℕ → List E → List E → Type 0
  Grows number before after =
      (added : List E) × (after ≡ before ++ added) × Each (λ e. caller e ≡ number) added

  -- each of these callers made just these entries of the list
  abbrev pub AreMade : List (ℕ × List E) → List E → Type 0
  AreMade callers entries = Each (λ c. made_by c.0 entries ≡ c.1) callers

-- What a caller finds, which has this number, has seen this much of the list, added its own entries, took in these
-- others, and knows the fixed part: the value's list begins with all that was seen, and has of the entries of this
-- caller and of the others just theirs
pub record Finds {T E F : Type 0} (entries : T → List E) (caller : E → ℕ) (fixed : T → F) (number : ℕ) (seen mine : List E) (joined : List (ℕ × List E)) (part : Option F) (value : T) : Type 0 where
  pub begins : Begins (entries value) seen
  pub own : made_by caller number (entries value) ≡ mine
  pub others : AreMade caller joined (entries value)
  pub stays : part ≡ Some (fixed value)
