-- Circles: why an option has no execution. Parts and items are this engine's own words.
use Rattle.std.specs.Prelude.{◌≡◌, ℕ, ◌≤◌, min, List, [], ◌∷◌, ◌++◌, map, length}
use Rattle.flow_model.specs.Lists.{◌∈◌, Each, AreDistinct}
use Rattle.flow_model.specs.Process.{Process, Empty, Task, Sequence, Parallel, Choice, Isolated, leaves}
use Rattle.flow_model.specs.Ready.{DirectlyBefore, isolated_parts}

-- an isolated body as one item, if it has leaves
abbrev pub item_of : List ℕ → List (List ℕ)
item_of [] = []
item_of (n ∷ ns) = (n ∷ ns) ∷ []

-- the items of a part: the leaves of its greatest isolated parts that have some, and its other leaves each alone
abbrev pub items_of : Process → List (List ℕ)
items_of Empty = []
items_of (Task n) = (n ∷ []) ∷ []
items_of (Sequence a b) = items_of a ++ items_of b
items_of (Parallel a b) = items_of a ++ items_of b
items_of (Choice a b) = items_of a ++ items_of b
items_of (Isolated a) = item_of (leaves a)

-- some leaf of the first item is directly before some leaf of the second
abbrev pub ItemBefore : Process → List (ℕ × ℕ) → List ℕ → List ℕ → Type 0
ItemBefore q pairs one two = (x y : ℕ) × (x ∈ one) × (y ∈ two) × DirectlyBefore q pairs x y

-- each item is before the next, and the last before that one
abbrev pub LeadsBackTo : Process → List (ℕ × ℕ) → List ℕ → List ℕ → List (List ℕ) → Type 0
LeadsBackTo q pairs first item [] = ItemBefore q pairs item first
LeadsBackTo q pairs first item (next ∷ more) = ItemBefore q pairs item next × LeadsBackTo q pairs first next more

-- each item is before the next, and the last before the first
abbrev pub IsRing : Process → List (ℕ × ℕ) → List (List ℕ) → Type 0
IsRing q pairs [] = ⊥
IsRing q pairs (item ∷ more) = LeadsBackTo q pairs item item more

-- the least leaf of an item
abbrev pub least_of : List ℕ → ℕ
least_of [] = 0
least_of (n ∷ []) = n
least_of (n ∷ m ∷ more) = min n (least_of (m ∷ more))

-- the list begins with the least of its members
abbrev pub BeginsWithLeast : List ℕ → Type 0
BeginsWithLeast [] = Unit {0}
BeginsWithLeast (n ∷ ns) = Each (λ m. n ≤ m) ns

-- two or more items of one part wait for each other in a ring; each is written as its least leaf
pub record IsCircle (q : Process) (pairs : List (ℕ × ℕ)) (circle : List ℕ) : Type 0 where
  -- the body of the part: the whole goal, or that of an isolated part
  pub part : Process
  pub is_part : part ∈ (q ∷ isolated_parts q)
  pub ring : List (List ℕ)
  pub items : Each (λ item. item ∈ items_of part) ring
  pub distinct : AreDistinct ring
  pub two : 2 ≤ length ring
  pub closed : IsRing q pairs ring
  pub written : circle ≡ map least_of ring
  pub from_least : BeginsWithLeast circle
