-- Keys by their numbers.
use Rattle.std.specs.Prelude.{◌≡◌, ◌<◌, ◌^◌, List, [], ◌∷◌, ◌++◌, length}
use Rattle.flow_model.specs.Lists.{◌∈◌, AreDistinct}

-- no key stands twice, and every number fits 32 bits
pub record AreNumbered {K : Type 0} (keys : List K) : Type 0 where
  pub distinct : AreDistinct keys
  pub few : length keys < 2 ^ 32

-- the keys with one more at the end, unless it is there
pub record IsAdded {K : Type 0} (old : List K) (key : K) (new : List K) : Type 0 where
  pub there : key ∈ old → new ≡ old
  pub missing : ¬ (key ∈ old) → new ≡ old ++ key ∷ []
