-- How many options there are, and how many leaves and pairs in all of them, in 64 bits.
use Rattle.std.specs.Prelude.{◌≡◌, ℕ, ◌+◌, ◌*◌, List, length, map, sum, take}
use Rattle.std.specs.List.{flat_map}
use Rattle.flow_model.specs.Resolution.{ChoiceOption, option_size}
use Rattle.flow_model.specs.Ways.{Normal}
use Rattle.flow_rules.specs.declared.way_count.WayCount.{WayCount}
use Rattle.flow_goal.specs.Capped.{capped}
use Rattle.flow_excise.specs.declared.tally.Counted.{Counted}
use Rattle.flow_excise.specs.declared.tally.Tally.{Tally}
use Rattle.flow_excise.specs.Options.{FoldedTree, has_ways, options_by, resolutions_in}

-- the tally of a list of options
abbrev pub tally_of : List ChoiceOption → Tally
tally_of os = record { options = capped (length os); bulk = capped (sum (map option_size os)) }

-- two tallies as one
abbrev pub added : Tally → Tally → Tally
added a b = record { options = capped (a.options + b.options); bulk = capped (a.bulk + b.bulk) }

-- the tally of a resolution with so many leaves, by its ways
abbrev pub tally_by : ℕ → WayCount → Tally
tally_by leaves count = record { options = count.ways; bulk = capped (capped (count.ways * leaves) + count.pairs) }

-- the first so many resolutions are counted
pub record IsCountedTo (t : FoldedTree) (n : Normal) (count : ℕ) (counted : Counted) : Type 0 where
  pub tally : counted.tally ≡ tally_of (flat_map (options_by t n) (take count (resolutions_in t)))
  pub met : counted.met.items ≡ map (has_ways t n) (take count (resolutions_in t))
