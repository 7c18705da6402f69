-- How long a front of a list of leaves is a ready run of options.
use Rattle.std.specs.Prelude.{◌≡◌, ◌<◌, ◌≤◌, ◌+◌, ◌⊎◌, ℕ, List, length, take}
use Rattle.flow_model.specs.Resolution.{ChoiceOption}
use Rattle.flow_model.specs.FoldedReady.{IsFoldedRun, IsCompleteFoldedRun}
use Rattle.flow_residual.specs.Options.{SomeOption, NoneBelow}

-- the list is a ready run of the option
abbrev pub Follows : List ℕ → ChoiceOption → Type 0
Follows list o = IsFoldedRun o.resolution o.order list

-- the list is a whole execution of the option
abbrev pub Finishes : List ℕ → ChoiceOption → Type 0
Finishes list o = IsCompleteFoldedRun o.resolution o.order list

-- so long a front of the list is a ready run of the option, and no longer one is
pub record Reaches (list : List ℕ) (o : ChoiceOption) (k : ℕ) : Type 0 where
  pub within : k ≤ length list
  pub follows : Follows (take k list) o
  pub no_longer : k < length list → ¬ (Follows (take (k + 1) list) o)

-- so long a front of the list is empty or a ready run of some option, and no longer one is
pub record AreReaching (list : List ℕ) (os : List ChoiceOption) (k : ℕ) : Type 0 where
  pub within : k ≤ length list
  pub follows : (k ≡ 0) ⊎ SomeOption (Follows (take k list)) os
  pub no_longer : k < length list → ¬ (SomeOption (Follows (take (k + 1) list)) os)

-- the same as far as the first so many options are looked at, of which none has the list as a whole execution
pub record AreReachingBelow (list : List ℕ) (os : List ChoiceOption) (i k : ℕ) : Type 0 where
  pub within : k ≤ length list
  pub follows : (k ≡ 0) ⊎ SomeOption (Follows (take k list)) os
  pub no_longer : k < length list → NoneBelow (Follows (take (k + 1) list)) os i
  pub none_whole : NoneBelow (Finishes list) os i
