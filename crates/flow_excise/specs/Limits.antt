-- How many options there may be, and how large.
use Rattle.std.specs.Prelude.{◌≡◌, ◌<◌, ◌≤◌, ◌⊎◌, ℕ, List, length, map, sum}
use Rattle.flow_model.specs.declared.limits.TheConstants.{GREATEST_BULK, MOST_OPTIONS, MOST_RESOLUTIONS}
use Rattle.flow_model.specs.Resolution.{ChoiceOption, option_size}
use Rattle.flow_goal.specs.Capped.{capped}
use Rattle.flow_excise.specs.declared.refusal.CompileRefusal.{CompileRefusal}
use Rattle.flow_excise.specs.declared.refusal.CompileRefusal.TheVariants.{TooManyChoices, TooManyWays, TooBulky, Inconsistent, NoMemory}
use Rattle.flow_excise.specs.declared.tally.Tally.{Tally}

-- the leaves and pairs of all of them
abbrev pub bulk_of : List ChoiceOption → ℕ
bulk_of os = sum (map option_size os)

-- the options are within the limits, and that is their tally
pub record AreFew (os : List ChoiceOption) (tally : Tally) : Type 0 where
  pub few : length os ≤ MOST_OPTIONS
  pub light : bulk_of os ≤ GREATEST_BULK
  pub options : tally.options ≡ length os
  pub bulk : tally.bulk ≡ bulk_of os

-- the options are too many, or too large in all, or nothing is said
abbrev pub IsTooMany : List ChoiceOption → CompileRefusal → Type 0
IsTooMany os (TooManyChoices count) = ⊥
IsTooMany os (TooManyWays count) = (MOST_OPTIONS < length os) × (count ≡ capped (length os))
IsTooMany os (TooBulky count) = (length os ≤ MOST_OPTIONS) × ((GREATEST_BULK < bulk_of os) × (count ≡ capped (bulk_of os)))
IsTooMany os (Inconsistent dropped) = ⊥
IsTooMany os NoMemory = Unit {0}

-- The resolutions, which are so many, are too many: that is told. Else memory is wanting.
abbrev pub HasManyChoices : ℕ → CompileRefusal → Type 0
HasManyChoices count refusal = ((MOST_RESOLUTIONS < count) × (refusal ≡ TooManyChoices (capped count))) ⊎ ((count ≤ MOST_RESOLUTIONS) × (refusal ≡ NoMemory))
