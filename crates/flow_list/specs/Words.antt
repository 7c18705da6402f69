-- The words of lines.
use Rattle.std.specs.Prelude.{ℕ, zero, suc, List, Option, None, Some, slice_get, codes}
use Rattle.std.specs.Option.{unwrap_or}

-- the name of the user with that number, of which the first is 1
abbrev pub user_name : List (List ℕ) → ℕ → List ℕ
user_name users zero = codes "nobody"
user_name users (suc place) = unwrap_or (slice_get users place) (codes "nobody")

abbrev pub name_of : Option (List (List ℕ)) → ℕ → List ℕ
name_of None number = codes "nobody"
name_of (Some users) number = user_name users number
