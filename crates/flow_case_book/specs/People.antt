-- The users of a case.
use Rattle.std.specs.Prelude.{◌≡◌, ◌⊎◌, ◌+◌, ℕ, zero, suc, Bool, if◌then◌else◌, List, length, codes, slice_get, map}
use Rattle.std.specs.Option.{unwrap_or}
use Rattle.std.specs.String.{string_bytes}
use Rattle.flow_model.specs.Lists.{◌∈◌}
use Rattle.flow_case.specs.RulesOf.{IsUser}
use Rattle.flow_case_book.specs.declared.names.Names.{Names}

-- the names of the users, by their numbers from 1
abbrev pub names_in : Names → List (List ℕ)
names_in n = map string_bytes n.names.items

-- the name of the user with that number
abbrev pub name_of : List (List ℕ) → ℕ → List ℕ
name_of names zero = codes "nobody"
name_of names (suc place) = unwrap_or (slice_get names place) (codes "nobody")

-- The number of who speaks: that of the user of the name; else, where others may come, the next; else 0, which is nobody's.
abbrev pub IsNumberOf : Bool → List (List ℕ) → List ℕ → ℕ → Type 0
IsNumberOf others names name number = IsUser names number name ⊎ (¬ (name ∈ names) × (number ≡ (if others then length names + 1 else 0)))
