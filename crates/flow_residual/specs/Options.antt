-- Lists of options, and what stands beside them.
use Rattle.std.specs.Prelude.{◌≡◌, ◌<◌, ℕ, List, length, Some, slice_get, slice_index_or}
use Rattle.flow_model.specs.Lists.{◌∈◌}
use Rattle.flow_model.specs.Resolution.{ChoiceOption}

-- some option of the list has P
abbrev pub SomeOption : (ChoiceOption → Type 0) → List ChoiceOption → Type 0
SomeOption P os = (o : ChoiceOption) × (o ∈ os) × P o

-- the option at the place has P
abbrev pub HasAt : (ChoiceOption → Type 0) → List ChoiceOption → ℕ → Type 0
HasAt P os k = (o : ChoiceOption) × (slice_get os k ≡ Some o) × P o

-- none of the first so many options of the list has P
abbrev pub NoneBelow : (ChoiceOption → Type 0) → List ChoiceOption → ℕ → Type 0
NoneBelow P os k = (j : ℕ) → j < k → (o : ChoiceOption) → slice_get os j ≡ Some o → ¬ (P o)

-- some of them has P
abbrev pub SomeBelow : (ChoiceOption → Type 0) → List ChoiceOption → ℕ → Type 0
SomeBelow P os k = (j : ℕ) × (j < k) × (o : ChoiceOption) × (slice_get os j ≡ Some o) × P o

-- each option has R of what stands at its place in the other list
pub record EachHas {A : Type 0} (R : ChoiceOption → A → Type 0) (os : List ChoiceOption) (xs : List A) : Type 0 where
  pub one_each : length xs ≡ length os
  pub each : (k : ℕ) (o : ChoiceOption) (x : A) → slice_get os k ≡ Some o → x ≡ slice_index_or xs k x → R o x
