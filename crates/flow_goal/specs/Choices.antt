-- The resolutions of a goal, prepared.
use Rattle.std.specs.Prelude.{◌≡◌, ◌<◌, ◌-◌, ◌^◌, ℕ, Bool, Some, length, slice_get}
use Rattle.flow_model.specs.Process.{Process}
use Rattle.flow_model.specs.Process as process
use Rattle.flow_model.specs.Folding.{fixed_leaves, folded_count, folded_resolutions}
use Rattle.flow_goal.specs.declared.choices.Choices.{Choices}
use Rattle.flow_goal.specs.declared.choices.Held.{Held}
use Rattle.flow_goal.specs.Pattern.{IsCounted, lines_in, lines_of}

-- those in which the choices stay that hold no leaf of the test
pub record AreChoicesOf (apart : ℕ → Bool) (g : Process) (choices : Choices) : Type 0 where
  pub counted : IsCounted choices.pattern
  pub listed : lines_of choices.pattern ≡ lines_in apart g

-- one of them has that number, and they are few enough to be counted
pub record IsNumbered (apart : ℕ → Bool) (g : Process) (number : ℕ) : Type 0 where
  pub below : number < folded_count apart g
  pub exact : folded_count apart g < 2 ^ 64 - 1

-- what is told of the leaves of the resolution of that number
abbrev pub HoldsThose : (ℕ → Bool) → Process → ℕ → Held → Type 0
HoldsThose apart g number held = (q : Process) × (slice_get (folded_resolutions apart g) number ≡ Some q)
    × (held.leaves ≡ length (process.leaves q)) × (held.fixed.items ≡ fixed_leaves q)
