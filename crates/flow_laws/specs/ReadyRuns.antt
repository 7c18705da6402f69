-- The ready runs of an option are the fronts of its traces, and the complete ones are its traces in order.
use Rattle.std.specs.Prelude.{ℕ, List, ◌↔◌}
use Rattle.flow_model.specs.Lists.{AreInOrder, Begins}
use Rattle.flow_model.specs.Process.{Process}
use Rattle.flow_model.specs.Trace.{Trace}
use Rattle.flow_model.specs.Ready.{IsReadyRun, IsCompleteRun}
use Rattle.flow_laws.specs.WellFormed.{IsOrdered}

abbrev pub CompleteRunsAreTraces : Type 0
CompleteRunsAreTraces = (q : Process) (pairs : List (ℕ × ℕ)) → IsOrdered q pairs → (t : List ℕ) →
    IsCompleteRun q pairs t ↔ (Trace q t × AreInOrder pairs t)

-- a front of an execution is a ready run
abbrev pub FrontsAreReady : Type 0
FrontsAreReady = (q : Process) (pairs : List (ℕ × ℕ)) → IsOrdered q pairs → (t front : List ℕ) →
    Trace q t → AreInOrder pairs t → Begins t front → IsReadyRun q pairs front

-- where there is an execution, every ready run begins one
abbrev pub ReadyRunsExtend : Type 0
ReadyRunsExtend = (q : Process) (pairs : List (ℕ × ℕ)) → IsOrdered q pairs →
    ((s : List ℕ) × Trace q s × AreInOrder pairs s) → (run : List ℕ) → IsReadyRun q pairs run →
    (t : List ℕ) × Trace q t × AreInOrder pairs t × Begins t run
