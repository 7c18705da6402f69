-- A goal that is written from left to right, and how it is read: by a stack of goals, the last one on top.
use Rattle.std.specs.Prelude.{◌≡◌, ℕ, zero, suc, List, [], ◌∷◌, ◌++◌, map, reverse}
use Rattle.flow_model.specs.Process.{Process, Empty, Task, Sequence, Parallel, Choice, Isolated}
use Rattle.flow_goal.specs.declared.goal.Goal.{Goal}
use Rattle.flow_goal.specs.declared.node.Node.{Node}
use Rattle.flow_goal.specs.declared.node.Node.TheVariants.{Nop, Leaf, Serial, Fork, Split, Join, Open, Close, Choose, Or, Chosen}
use Rattle.flow_goal.specs.Goal.{process_of}
use Rattle.flow_goal.specs.Resolved.{Resolved, IsResolved}

-- the marks of a goal
abbrev pub nodes_of : Process → List Node
nodes_of Empty = Nop ∷ []
nodes_of (Task n) = Leaf ∷ []
nodes_of (Sequence a b) = nodes_of a ++ (nodes_of b ++ Serial ∷ [])
nodes_of (Parallel a b) = Fork ∷ (nodes_of a ++ (Split ∷ (nodes_of b ++ Join ∷ [])))
nodes_of (Choice a b) = Choose ∷ (nodes_of a ++ (Or ∷ (nodes_of b ++ Chosen ∷ [])))
nodes_of (Isolated a) = Open ∷ (nodes_of a ++ Close ∷ [])

-- the goal on top, and the others; what is missing is nothing
abbrev pub top : List Process → Process
top [] = Empty
top (g ∷ stack) = g

abbrev pub rest : List Process → List Process
rest [] = []
rest (g ∷ stack) = stack

abbrev pub leaf_of : List ℕ → ℕ → Process
leaf_of [] k = Empty
leaf_of (n ∷ ns) zero = Task n
leaf_of (n ∷ ns) (suc k) = leaf_of ns k

-- the goal that the marks make of the stack, with the leaves from that place on
abbrev pub read_on : List Node → List ℕ → ℕ → List Process → Process
read_on [] ns k stack = top stack
read_on (Nop ∷ nodes) ns k stack = read_on nodes ns k (Empty ∷ stack)
read_on (Leaf ∷ nodes) ns k stack = read_on nodes ns (suc k) (leaf_of ns k ∷ stack)
read_on (Serial ∷ nodes) ns k stack = read_on nodes ns k (Sequence (top (rest stack)) (top stack) ∷ rest (rest stack))
read_on (Fork ∷ nodes) ns k stack = read_on nodes ns k stack
read_on (Split ∷ nodes) ns k stack = read_on nodes ns k stack
read_on (Join ∷ nodes) ns k stack = read_on nodes ns k (Parallel (top (rest stack)) (top stack) ∷ rest (rest stack))
read_on (Open ∷ nodes) ns k stack = read_on nodes ns k stack
read_on (Close ∷ nodes) ns k stack = read_on nodes ns k (Isolated (top stack) ∷ rest stack)
read_on (Choose ∷ nodes) ns k stack = read_on nodes ns k stack
read_on (Or ∷ nodes) ns k stack = read_on nodes ns k stack
read_on (Chosen ∷ nodes) ns k stack = read_on nodes ns k (Choice (top (rest stack)) (top stack) ∷ rest (rest stack))

abbrev pub read : List Node → List ℕ → List ℕ → Resolved
read nodes leaves fixed = record { process = read_on nodes leaves 0 []; leaves = leaves; fixed = fixed }

-- the marks are those of the goal that is read
pub record IsWritten (nodes : List Node) (leaves fixed : List ℕ) : Type 0 where
  pub resolved : IsResolved (read nodes leaves fixed)
  pub nodes_are : nodes ≡ nodes_of (read nodes leaves fixed).process

-- the goals of the code's stack, whose top is its last one
abbrev pub goals_on : List Goal → List Process
goals_on goals = reverse (map process_of goals)
