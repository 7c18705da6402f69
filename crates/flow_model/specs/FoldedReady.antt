-- What may come next in a goal whose choices are all folded, under pairs of leaves in order.
use Rattle.std.specs.Prelude.{ℕ, List, [], ◌∷◌, ◌⊎◌}
use Rattle.flow_model.specs.Lists.{◌∈◌}
use Rattle.flow_model.specs.Process.{Process, Empty, Task, Sequence, Parallel, Choice, Isolated, leaves}
use Rattle.flow_model.specs.Ready.{isolated_parts, DoneOr}

-- some leaf of the goal is done
abbrev pub IsBegun : Process → (ℕ → Type 0) → Type 0
IsBegun g Done = (x : ℕ) × (x ∈ leaves g) × Done x

-- nothing of the goal is left to do: of a choice one side is finished
abbrev pub IsFinished : Process → (ℕ → Type 0) → Type 0
IsFinished Empty Done = Unit {0}
IsFinished (Task n) Done = Done n
IsFinished (Sequence a b) Done = IsFinished a Done × IsFinished b Done
IsFinished (Parallel a b) Done = IsFinished a Done × IsFinished b Done
IsFinished (Choice a b) Done = IsFinished a Done ⊎ IsFinished b Done
IsFinished (Isolated a) Done = IsFinished a Done

-- the leaf lies in one side of a choice whose other side is begun
abbrev pub IsClosedOff : Process → (ℕ → Type 0) → ℕ → Type 0
IsClosedOff Empty Done n = ⊥
IsClosedOff (Task m) Done n = ⊥
IsClosedOff (Sequence a b) Done n = IsClosedOff a Done n ⊎ IsClosedOff b Done n
IsClosedOff (Parallel a b) Done n = IsClosedOff a Done n ⊎ IsClosedOff b Done n
IsClosedOff (Choice a b) Done n =
    (((n ∈ leaves a) × IsBegun b Done) ⊎ ((n ∈ leaves b) × IsBegun a Done)) ⊎ (IsClosedOff a Done n ⊎ IsClosedOff b Done n)
IsClosedOff (Isolated a) Done n = IsClosedOff a Done n

-- the left side of each sequence that has the leaf on its right is finished
abbrev pub IsItsTurn : Process → (ℕ → Type 0) → ℕ → Type 0
IsItsTurn Empty Done n = Unit {0}
IsItsTurn (Task m) Done n = Unit {0}
IsItsTurn (Sequence a b) Done n = (n ∈ leaves b → IsFinished a Done) × IsItsTurn a Done n × IsItsTurn b Done n
IsItsTurn (Parallel a b) Done n = IsItsTurn a Done n × IsItsTurn b Done n
IsItsTurn (Choice a b) Done n = IsItsTurn a Done n × IsItsTurn b Done n
IsItsTurn (Isolated a) Done n = IsItsTurn a Done n

-- the leaf may come next after the done ones
pub record IsFoldedReady (q : Process) (pairs : List (ℕ × ℕ)) (Done : ℕ → Type 0) (n : ℕ) : Type 0 where
  pub leaf : n ∈ leaves q
  pub not_done : ¬ Done n
  pub not_closed : ¬ (IsClosedOff q Done n)
  pub turn : IsItsTurn q Done n
  -- the first leaf of each pair that has it second is done
  pub before : (x : ℕ) → (x, n) ∈ pairs → Done x
  -- an isolated part that lacks it and is begun is finished
  pub outside : (part : Process) → part ∈ isolated_parts q → ¬ (n ∈ leaves part) → IsBegun part Done → IsFinished part Done
  -- an isolated part that it would begin waits for no pair from outside
  pub begins : (part : Process) → part ∈ isolated_parts q → n ∈ leaves part → ¬ (IsBegun part Done) →
      (x y : ℕ) → ¬ (x ∈ leaves part) → y ∈ leaves part → (x, y) ∈ pairs → Done x

-- each leaf of the list may come next after the done ones and those before it in the list
abbrev pub IsFoldedRunAfter : Process → List (ℕ × ℕ) → (ℕ → Type 0) → List ℕ → Type 0
IsFoldedRunAfter q pairs Done [] = Unit {0}
IsFoldedRunAfter q pairs Done (n ∷ run) = IsFoldedReady q pairs Done n × IsFoldedRunAfter q pairs (DoneOr Done (n ∷ [])) run

-- the same, where nothing is done at first
abbrev pub IsFoldedRun : Process → List (ℕ × ℕ) → List ℕ → Type 0
IsFoldedRun q pairs run = IsFoldedRunAfter q pairs (λ n. ⊥) run

-- a ready run after which the goal is finished
abbrev pub IsCompleteFoldedRun : Process → List (ℕ × ℕ) → List ℕ → Type 0
IsCompleteFoldedRun q pairs run = IsFoldedRun q pairs run × IsFinished q (λ n. n ∈ run)
