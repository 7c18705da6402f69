-- What may come next in a goal without choices, under pairs of leaves in order. When a run can take a leaf is `CanTake` in Run.
use Rattle.std.specs.Prelude.{ℕ, List, [], ◌∷◌, ◌++◌, ◌⊎◌}
use Rattle.flow_model.specs.Lists.{◌∈◌}
use Rattle.flow_model.specs.Process.{Process, Empty, Task, Sequence, Parallel, Choice, Isolated, leaves}

-- the least goal above both leaves is a sequence, with x on its left and y on its right
abbrev pub InSequence : Process → ℕ → ℕ → Type 0
InSequence Empty x y = ⊥
InSequence (Task n) x y = ⊥
InSequence (Sequence a b) x y = (((x ∈ leaves a) × (y ∈ leaves b)) ⊎ InSequence a x y) ⊎ InSequence b x y
InSequence (Parallel a b) x y = InSequence a x y ⊎ InSequence b x y
InSequence (Choice a b) x y = InSequence a x y ⊎ InSequence b x y
InSequence (Isolated a) x y = InSequence a x y

-- x is directly before y: in the goal, or by a pair
abbrev pub DirectlyBefore : Process → List (ℕ × ℕ) → ℕ → ℕ → Type 0
DirectlyBefore q pairs x y = InSequence q x y ⊎ ((x, y) ∈ pairs)

-- the bodies of the isolated parts, outer ones first
abbrev pub isolated_parts : Process → List Process
isolated_parts Empty = []
isolated_parts (Task n) = []
isolated_parts (Sequence a b) = isolated_parts a ++ isolated_parts b
isolated_parts (Parallel a b) = isolated_parts a ++ isolated_parts b
isolated_parts (Choice a b) = isolated_parts a ++ isolated_parts b
isolated_parts (Isolated a) = a ∷ isolated_parts a

-- the leaf may come next after the done ones
pub record IsReady (q : Process) (pairs : List (ℕ × ℕ)) (Done : ℕ → Type 0) (n : ℕ) : Type 0 where
  pub leaf : n ∈ leaves q
  pub not_done : ¬ Done n
  -- what stands directly before it is done
  pub before : (x : ℕ) → DirectlyBefore q pairs x n → Done x
  -- an isolated part that lacks it and is begun is finished
  pub outside : (part : Process) → part ∈ isolated_parts q → ¬ (n ∈ leaves part) →
      (x y : ℕ) → x ∈ leaves part → Done x → y ∈ leaves part → Done y
  -- an isolated part that it would begin waits for nothing outside
  pub begins : (part : Process) → part ∈ isolated_parts q → n ∈ leaves part →
      ((x : ℕ) → x ∈ leaves part → ¬ Done x) →
      (x y : ℕ) → ¬ (x ∈ leaves part) → y ∈ leaves part → DirectlyBefore q pairs x y → Done x

-- done, or one of these
abbrev pub DoneOr : (ℕ → Type 0) → List ℕ → ℕ → Type 0
DoneOr Done more n = Done n ⊎ (n ∈ more)

-- each leaf of the list may come next after the done ones and those before it in the list
abbrev pub IsReadyRunAfter : Process → List (ℕ × ℕ) → (ℕ → Type 0) → List ℕ → Type 0
IsReadyRunAfter q pairs Done [] = Unit {0}
IsReadyRunAfter q pairs Done (n ∷ run) = IsReady q pairs Done n × IsReadyRunAfter q pairs (DoneOr Done (n ∷ [])) run

-- the same, where nothing is done at first
abbrev pub IsReadyRun : Process → List (ℕ × ℕ) → List ℕ → Type 0
IsReadyRun q pairs run = IsReadyRunAfter q pairs (λ n. ⊥) run

-- a ready run with all leaves
abbrev pub IsCompleteRun : Process → List (ℕ × ℕ) → List ℕ → Type 0
IsCompleteRun q pairs run = IsReadyRun q pairs run × ((n : ℕ) → n ∈ leaves q → n ∈ run)
