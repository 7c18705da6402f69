-- What remains to be tried after a step.
use Rattle.std.specs.Prelude.{ℕ, List}
use Rattle.flow_stages.specs.declared.staffing.Step.{Step}
use Rattle.flow_stages.specs.declared.staffing.Step.TheVariants as step
use Rattle.flow_stages.specs.Trying.{IsToCome}

-- after the step they are not tried yet
abbrev pub RemainsAt : List ℕ → List (ℕ × ℕ) → (ℕ → ℕ) → Step → Type 0
RemainsAt events taken to (step.On from) = IsToCome events taken from to
RemainsAt events taken to step.Found = Unit {0}
RemainsAt events taken to step.Never = ⊥
