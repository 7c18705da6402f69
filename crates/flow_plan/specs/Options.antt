-- Plans as options, and those options that have an execution.
use Rattle.std.specs.Prelude.{◌≡◌, ◌<◌, ℕ, ◌⊎◌, List, [], ◌∷◌, map}
use Rattle.std.specs.Coded.{×_prop, Unit-prop, le_prop}
use Rattle.flow_model.specs.declared.limits.TheConstants.{MOST_LEAVES}
use Rattle.flow_model.specs.Lists.{Each}
use Rattle.flow_model.specs.Process.{leaves}
use Rattle.flow_model.specs.Resolution.{ChoiceOption, OptionTrace}
use Rattle.flow_plan.specs.Planned.{Planned, pairs_of}
use Rattle.flow_plan.specs.Sampled.{Sampled}

-- the option of a plan
abbrev pub option_of : Planned → ChoiceOption
option_of p = record { resolution = p.process; order = pairs_of p.tokens }

-- the options of the plans
abbrev pub options_of : List Sampled → List ChoiceOption
options_of plans = map (λ (s : Sampled). option_of s.plan) plans

-- each leaf of the option has a place in a row
abbrev pub HasSmallLeaves : ChoiceOption → Type 0
HasSmallLeaves o = Each (λ n. n < MOST_LEAVES) (leaves o.resolution)

each_prop : {A : Type 0} (P : A → Type 0) → ((x : A) → IsProp (P x)) → (xs : List A) → IsProp (Each P xs)
each_prop P one [] = Unit-prop
each_prop P one (x ∷ xs) = ×_prop (one x) (each_prop P one xs)

pub small-prop : (os : List ChoiceOption) → IsProp (Each HasSmallLeaves os)
small-prop = each_prop HasSmallLeaves (λ o. each_prop (λ n. n < MOST_LEAVES) (λ n. le_prop) (leaves o.resolution))

abbrev pub HasExecution : ChoiceOption → Type 0
HasExecution o = (t : List ℕ) × OptionTrace o t

-- the second list has, in order, just those members of the first that have P
abbrev pub AreJustThose : {A : Type 0} → (A → Type 0) → List A → List A → Type 0
AreJustThose P [] ys = ys ≡ []
AreJustThose {A} P (x ∷ xs) ys = (P x × ((rest : List A) × (ys ≡ x ∷ rest) × AreJustThose P xs rest)) ⊎ (¬ (P x) × AreJustThose P xs ys)
