-- Rules that are narrowed for some lanes, and their ways.
use Rattle.std.specs.Prelude.{◌≡◌, ◌<◌, ℕ, true, false, if◌then◌else◌, List, [], Option, fold, get_or, length}
use Rattle.flow_model.specs.Ways.{free_way, is_free, ways}
use Rattle.flow_model.specs.declared.operators.Connective.TheVariants.{And}
use Rattle.flow_rules.specs.declared.lanes.Lanes.{Lanes}
use Rattle.flow_rules.specs.declared.normal.Nnf.{Nnf}
use Rattle.flow_rules.specs.declared.narrowed.LaneRule.{LaneRule}
use Rattle.flow_rules.specs.declared.narrowed.Narrowed.{Narrowed}
use Rattle.flow_rules.specs.Lanes.{Shows}
use Rattle.flow_rules.specs.Normal.{normal_of}
use Rattle.flow_rules.specs.Standing.{has_lane}
use Rattle.flow_rules.specs.WayLists.{both_ways, is_none, ways_of_parts}

-- the ways so far, with those of a rule that is open in the lane
abbrev pub with_open : ℕ → (ℕ → Option ℕ) → List (List (ℕ × ℕ)) → LaneRule → List (List (ℕ × ℕ))
with_open lane leaf vs r = if has_lane r.lanes lane then both_ways vs (ways (normal_of r.rule) leaf) else vs

-- the ways of those that are open there
abbrev pub open_ways : ℕ → (ℕ → Option ℕ) → List LaneRule → List (List (ℕ × ℕ))
open_ways lane leaf rules = fold (with_open lane leaf) free_way rules

-- the ways of all, where none is unmet
abbrev pub ways_in : Narrowed → ℕ → (ℕ → Option ℕ) → List (List (ℕ × ℕ))
ways_in n lane leaf = if has_lane n.unmet lane then [] else open_ways lane leaf n.rules.items

-- the rule has these ways in each of the wanted lanes
abbrev pub HasWaysIn : Nnf → ℕ → Lanes → ((ℕ → Option ℕ) → List (List (ℕ × ℕ))) → Type 0
HasWaysIn rule wanted lanes these = (lane : ℕ) (leaf : ℕ → Option ℕ) → lane < 64 → Shows lanes lane leaf → has_lane wanted lane ≡ true →
    ways (normal_of rule) leaf ≡ these leaf

-- the word has the lanes in which the rule is met in any order
abbrev pub HasFreeLanes : ℕ → Lanes → Nnf → Type 0
HasFreeLanes word lanes rule = (lane : ℕ) (leaf : ℕ → Option ℕ) → lane < 64 → Shows lanes lane leaf → has_lane word lane ≡ is_free (ways (normal_of rule) leaf)

-- so have the words of the first rules
pub record AreFreeTo (count : ℕ) (words : List ℕ) (lanes : Lanes) (rules : List Nnf) : Type 0 where
  pub size : length words ≡ count
  pub each : (i : ℕ) → i < count → (rule : Nnf) → rule ≡ get_or rules i rule → HasFreeLanes (get_or words i 0) lanes rule

abbrev pub AreFree : List ℕ → Lanes → List Nnf → Type 0
AreFree words lanes rules = AreFreeTo (length rules) words lanes rules

-- the word has the lanes in which the rules can't all be met
abbrev pub IsUnmet : ℕ → Lanes → List Nnf → Type 0
IsUnmet word lanes rules = (lane : ℕ) (leaf : ℕ → Option ℕ) → lane < 64 → Shows lanes lane leaf → has_lane word lane ≡ is_none (ways_of_parts And leaf rules)

-- the rules that are left have the ways of all in each lane in which none is unmet
abbrev pub LeftOf : ℕ → Lanes → List LaneRule → List Nnf → Type 0
LeftOf unmet lanes left rules = (lane : ℕ) (leaf : ℕ → Option ℕ) → lane < 64 → Shows lanes lane leaf → has_lane unmet lane ≡ false →
    open_ways lane leaf left ≡ ways_of_parts And leaf rules
