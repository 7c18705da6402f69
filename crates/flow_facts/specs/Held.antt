-- A set of facts, as a flag for each number.
use Rattle.std.specs.Prelude.{ℕ, Bool, false, List, length, map, slice_index_or}
use Rattle.std.specs.List.{range_with_len}
use Rattle.leaf_rows.specs.Leaves.{has_bit}

-- the fact of that number is in the set
abbrev pub is_held : List Bool → ℕ → Bool
is_held flags n = slice_index_or flags n false

-- the first bits of a row, as flags
unfoldable pub flags_of : ℕ → List ℕ → List Bool
flags_of count words = map (has_bit (length words) words) (range_with_len 0 count)
