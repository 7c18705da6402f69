-- The executions of a goal in event order: multi-paths at their finest (Bonner and Kifer 1996).
use Rattle.std.specs.Prelude.{◌≡◌, ℕ, List, [], ◌∷◌, ◌++◌, ◌⊎◌}
use Rattle.flow_model.specs.Lists.{joined}
use Rattle.flow_model.specs.Process.{Process, Empty, Task, Sequence, Parallel, Choice, Isolated}

-- the third list interleaves the first two: it keeps the order of each and cuts no member
pub data Shuffle {A : Type 0} : List A → List A → List A → Type 0 where
  both_end : Shuffle [] [] []
  from_left : {x : A} {a b c : List A} → Shuffle a b c → Shuffle (x ∷ a) b (x ∷ c)
  from_right : {x : A} {a b c : List A} → Shuffle a b c → Shuffle a (x ∷ b) (x ∷ c)

-- the blocks as one block, or no block where there is none
abbrev pub as_one : List (List ℕ) → List (List ℕ)
as_one [] = []
as_one (block ∷ blocks) = joined (block ∷ blocks) ∷ []

-- The goal may be executed as these blocks. Nothing comes into a block; between two blocks the process pauses.
abbrev pub Blocks : Process → List (List ℕ) → Type 0
Blocks Empty blocks = blocks ≡ []
Blocks (Task n) blocks = blocks ≡ (n ∷ []) ∷ []
Blocks (Sequence a b) blocks = (x y : List (List ℕ)) × Blocks a x × Blocks b y × (blocks ≡ x ++ y)
Blocks (Parallel a b) blocks = (x y : List (List ℕ)) × Blocks a x × Blocks b y × Shuffle x y blocks
Blocks (Choice a b) blocks = Blocks a blocks ⊎ Blocks b blocks
Blocks (Isolated a) blocks = (x : List (List ℕ)) × Blocks a x × (blocks ≡ as_one x)

-- t is an execution of the goal in event order: its blocks joined, each test taken as true
abbrev pub Trace : Process → List ℕ → Type 0
Trace g t = (blocks : List (List ℕ)) × Blocks g blocks × (t ≡ joined blocks)
