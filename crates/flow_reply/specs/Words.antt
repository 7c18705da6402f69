-- Words with numbers after them.
use Rattle.std.specs.Prelude.{ℕ, List, ◌++◌}
use Rattle.flow_record.specs.Number.{spaced_numbers}

abbrev pub numbers_text : List ℕ → List ℕ → List ℕ
numbers_text word numbers = word ++ spaced_numbers numbers
