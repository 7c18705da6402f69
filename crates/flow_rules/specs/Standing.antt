-- In which lanes a rule is met in any order, and in which in none.
use Rattle.std.specs.Prelude.{◌≡◌, ◌<◌, ℕ, ◌==◌, Bool, true, false, List, Option}
use Rattle.std.specs.Int.{bit_at}
use Rattle.flow_rules.specs.declared.lanes.Lanes.{Lanes}
use Rattle.flow_rules.specs.declared.standing.Standing.{Standing}
use Rattle.flow_rules.specs.Lanes.{Shows}
use Rattle.flow_rules.specs.WayLists.{is_decided}

-- the word has the lane
abbrev pub has_lane : ℕ → ℕ → Bool
has_lane word lane = bit_at word lane == 1

-- the lanes in which the rule is met in any order where the flag is true, and else those in which it is met in none
abbrev pub lanes_where : Standing → Bool → ℕ
lanes_where s true = s.free
lanes_where s false = s.unmet

-- what it says of a lane, where the rule has these ways there
abbrev pub StandsIn : Standing → ℕ → List (List (ℕ × ℕ)) → Type 0
StandsIn s lane ways = (met : Bool) → has_lane (lanes_where s met) lane ≡ is_decided met ways

-- so it is in each lane, where the rule has ways by the map of the lane
abbrev pub Stands : Standing → Lanes → ((ℕ → Option ℕ) → List (List (ℕ × ℕ))) → Type 0
Stands s lanes ways = (lane : ℕ) (leaf : ℕ → Option ℕ) → lane < 64 → Shows lanes lane leaf → StandsIn s lane (ways leaf)
