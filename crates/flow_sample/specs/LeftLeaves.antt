-- The leaves on left sides, by the marks of a goal.
use Rattle.std.specs.Prelude.{◌≡◌, ◌++◌, ℕ, zero, suc, List, [], ◌∷◌, drop}
use Rattle.flow_goal.specs.declared.node.Node.{Node}
use Rattle.flow_goal.specs.declared.node.Node.TheVariants.{Leaf, Or, Chosen}
use Rattle.flow_sample.specs.declared.left_leaves.LeftWalk.{LeftWalk}

-- those that the rest of the marks has of the leaves that are left, where the right sides of so many open choices are passed over
abbrev pub left_read : List Node → List ℕ → ℕ → List ℕ
left_read [] ns passed = []
left_read (Leaf ∷ nodes) [] passed = left_read nodes [] passed
left_read (Leaf ∷ nodes) (n ∷ ns) zero = n ∷ left_read nodes ns zero
left_read (Leaf ∷ nodes) (n ∷ ns) (suc passed) = left_read nodes ns (suc passed)
left_read (Or ∷ nodes) ns passed = left_read nodes ns (suc passed)
left_read (Chosen ∷ nodes) ns zero = left_read nodes ns zero
left_read (Chosen ∷ nodes) ns (suc passed) = left_read nodes ns passed
left_read (node ∷ nodes) ns passed = left_read nodes ns passed

-- those that the walk has taken, and those that it is still to take
abbrev pub taken_in_all : LeftWalk → List Node → List ℕ → List ℕ
taken_in_all walk nodes leaves = walk.taken.items ++ left_read nodes (drop walk.place leaves) walk.passed

-- the mark was read
abbrev pub WalksOn : List ℕ → Node → LeftWalk → LeftWalk → Type 0
WalksOn leaves node old new = (nodes : List Node) → taken_in_all old (node ∷ nodes) leaves ≡ taken_in_all new nodes leaves
