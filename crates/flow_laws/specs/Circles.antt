-- An option has a circle exactly where it has no execution.
use Rattle.std.specs.Prelude.{ℕ, List, ◌⊎◌}
use Rattle.flow_model.specs.Lists.{AreInOrder}
use Rattle.flow_model.specs.Process.{Process}
use Rattle.flow_model.specs.Trace.{Trace}
use Rattle.flow_model.specs.Circle.{IsCircle}
use Rattle.flow_laws.specs.WellFormed.{IsOrdered}

abbrev pub CirclesExcludeTraces : Type 0
CirclesExcludeTraces = (q : Process) (pairs : List (ℕ × ℕ)) → IsOrdered q pairs → (circle : List ℕ) → IsCircle q pairs circle →
    (t : List ℕ) → Trace q t → ¬ (AreInOrder pairs t)

-- one of the two is found
abbrev pub TraceOrCircle : Type 0
TraceOrCircle = (q : Process) (pairs : List (ℕ × ℕ)) → IsOrdered q pairs →
    ((t : List ℕ) × Trace q t × AreInOrder pairs t) ⊎ ((circle : List ℕ) × IsCircle q pairs circle)
