-- How many ways a list has, and how many pairs, in 64 bits.
use Rattle.std.specs.Prelude.{◌≡◌, ℕ, ◌+◌, ◌*◌, ◌==◌, Bool, ◌&&◌, List, Option, is_some, length}
use Rattle.flow_model.specs.Lists.{joined}
use Rattle.flow_goal.specs.Capped.{capped}
use Rattle.flow_rules.specs.declared.way_count.WayCount.{WayCount}

-- how many ways the list has, and how many pairs in all of them
abbrev pub count_of : List (List (ℕ × ℕ)) → WayCount
count_of ways = record { ways = capped (length ways); pairs = capped (length (joined ways)) }

-- the one way that asks for nothing is all
abbrev pub is_free_count : WayCount → Bool
is_free_count c = c.ways == 1 && c.pairs == 0

-- the counts of each way with each of others
abbrev pub counts_of_both : WayCount → WayCount → WayCount
counts_of_both c d = record {
  ways = capped (c.ways * d.ways);
  pairs = capped (capped (c.pairs * d.ways) + capped (c.ways * d.pairs));
}

-- the counts of ways and others, where neither has the one that asks for nothing
abbrev pub counts_beside : WayCount → WayCount → WayCount
counts_beside c d = record { ways = capped (c.ways + d.ways); pairs = capped (c.pairs + d.pairs) }

-- it tells of each event whether it has a leaf
abbrev pub Tells : (ℕ → Bool) → (ℕ → Option ℕ) → Type 0
Tells present leaf = (event : ℕ) → present event ≡ is_some (leaf event)
