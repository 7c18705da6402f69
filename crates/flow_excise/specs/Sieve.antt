-- Options that can be made plans of, and those that were looked at.
use Rattle.std.specs.Prelude.{◌<◌, ◌^◌, ℕ, List, ◌++◌, length, map, take}
use Rattle.flow_model.specs.declared.limits.TheConstants.{MOST_LEAVES}
use Rattle.flow_model.specs.Lists.{◌∈◌, Each}
use Rattle.flow_model.specs.Process.{Process, leaves}
use Rattle.flow_model.specs.Resolution.{ChoiceOption}
use Rattle.flow_model.specs.Ways.{Normal}
use Rattle.flow_fold_laws.specs.Unfolding.{IsFoldedOrdered}
use Rattle.flow_rules.specs.declared.order_set.OrderSet.{OrderSet}
use Rattle.flow_weave.specs.Woven.{option_with}
use Rattle.flow_excise.specs.declared.sieve.Sieve.{Sieve}
use Rattle.flow_excise.specs.Executions.{NumberedOption, AreSifted, numbered_options}
use Rattle.flow_excise.specs.Options.{FoldedTree, options_by, resolutions_in}
use Rattle.flow_plan.specs.Options.{options_of}

pub record IsPlannable (o : ChoiceOption) : Type 0 where
  pub ordered : IsFoldedOrdered o.resolution o.order
  pub small : Each (λ n. n < MOST_LEAVES) (leaves o.resolution)
  pub few : length o.order < 2 ^ 32

abbrev pub ArePlannable : List ChoiceOption → Type 0
ArePlannable os = (o : ChoiceOption) → o ∈ os → IsPlannable o

abbrev pub options_with : Process → List OrderSet → List ChoiceOption
options_with q ways = map (option_with q) ways

-- just these options were looked at
abbrev pub HasSifted : List NumberedOption → Sieve → Type 0
HasSifted ns sieve = AreSifted ns (options_of sieve.kept.items) sieve.dropped.items

-- these options are looked at after the others
abbrev pub Sifts : List NumberedOption → Sieve → Sieve → Type 0
Sifts ns old new = (done : List NumberedOption) → HasSifted done old → HasSifted (done ++ ns) new

-- just the options of the first so many resolutions were looked at
abbrev pub HasSiftedTo : FoldedTree → Normal → ℕ → Sieve → Type 0
HasSiftedTo t n count sieve = HasSifted (numbered_options 0 (map (options_by t n) (take count (resolutions_in t)))) sieve
