-- Options that have an execution are kept, the others are dropped.
use Rattle.std.specs.Prelude.{◌≡◌, ℕ, ◌+◌, ◌⊎◌, List, [], ◌∷◌, ◌++◌}
use Rattle.flow_model.specs.FoldedCircle.{IsFoldedCircle}
use Rattle.flow_model.specs.Resolution.{ChoiceOption}
use Rattle.flow_plan.specs.Options.{HasExecution}
use Rattle.flow_excise.specs.declared.refusal.Dropped.{Dropped}

-- an option, the number of its resolution, and that of its way
pub record NumberedOption : Type 0 where
  pub resolution : ℕ
  pub way : ℕ
  pub option : ChoiceOption

-- the options of a resolution, their ways numbered from the given one
abbrev pub numbered_ways : ℕ → ℕ → List ChoiceOption → List NumberedOption
numbered_ways resolution way [] = []
numbered_ways resolution way (o ∷ os) = record { resolution = resolution; way = way; option = o } ∷ numbered_ways resolution (way + 1) os

-- the options of each resolution, the resolutions numbered from the given one
abbrev pub numbered_options : ℕ → List (List ChoiceOption) → List NumberedOption
numbered_options resolution [] = []
numbered_options resolution (os ∷ more) = numbered_ways resolution 0 os ++ numbered_options (resolution + 1) more

-- it tells the option by its numbers, with a circle of it
pub record TellsOf (n : NumberedOption) (dropped : Dropped) : Type 0 where
  pub resolution : dropped.resolution ≡ n.resolution
  pub way : dropped.way ≡ n.way
  pub circle : IsFoldedCircle n.option.resolution n.option.order dropped.circle.leaves.items

-- one for each option, in order
abbrev pub TellOfAll : List NumberedOption → List Dropped → Type 0
TellOfAll [] [] = Unit {0}
TellOfAll [] (d ∷ ds) = ⊥
TellOfAll (n ∷ ns) [] = ⊥
TellOfAll (n ∷ ns) (d ∷ ds) = TellsOf n d × TellOfAll ns ds

-- of each option in order, it is among those that are kept, and has an execution, or it is told among those that are dropped
abbrev pub AreSifted : List NumberedOption → List ChoiceOption → List Dropped → Type 0
AreSifted [] kept dropped = (kept ≡ []) × (dropped ≡ [])
AreSifted (n ∷ ns) kept dropped =
    (HasExecution n.option × ((rest : List ChoiceOption) × (kept ≡ n.option ∷ rest) × AreSifted ns rest dropped))
    ⊎ ((d : Dropped) × TellsOf n d × ((rest : List Dropped) × (dropped ≡ d ∷ rest) × AreSifted ns kept rest))
