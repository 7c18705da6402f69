-- Marks of a goal that are read for the rows of its leaves.
use Rattle.std.specs.Prelude.{◌≡◌, ◌+◌, ◌==◌, ◌||◌, Bool, ℕ, List, [], ◌∷◌, ◌++◌, ◌⊎◌, MatchOption, Some, length, reverse, slice_get}
use Rattle.leaf_rows.specs.Leaves.{has_leaf}
use Rattle.leaf_rows.specs.declared.leaf_set.LeafSet.{LeafSet}
use Rattle.flow_model.specs.Process.{Process}
use Rattle.flow_model.specs.Ready.{InSequence}
use Rattle.flow_goal.specs.declared.node.Node.{Node}
use Rattle.flow_goal.specs.declared.node.Node.TheVariants.{Leaf, Fork, Split, Join, Choose, Or, Chosen}
use Rattle.flow_plan.specs.declared.sweep.Ahead.{Ahead}
use Rattle.flow_plan.specs.declared.sweep.Ahead.TheVariants.{Behind, Joined}
use Rattle.flow_plan.specs.declared.sweep.Forked.{Forked}
use Rattle.flow_plan.specs.declared.sweep.Sweep.{Sweep}
use Rattle.flow_plan.specs.Rows.{AreRowsOf}
use Rattle.flow_plan.specs.Stacks.{WithTop}

-- what is ahead is a test of leaves. Two tests say the same; the set has just what passes the test; and the union of two tests
abbrev pub IsSame : (ℕ → Bool) → (ℕ → Bool) → Type 0
IsSame one two = (x : ℕ) → one x ≡ two x

abbrev pub HasThose : {w : ℕ} → (ℕ → Bool) → LeafSet w → Type 0
HasThose test set = (x : ℕ) → has_leaf set x ≡ test x

abbrev pub IsUnion : (ℕ → Bool) → (ℕ → Bool) → (ℕ → Bool) → Type 0
IsUnion one two all = (x : ℕ) → all x ≡ (one x || two x)

-- what is ahead of what follows two goals beside one another, by what is ahead of both and behind each: one of
-- these where the other goal adds no leaf
abbrev pub IsJoined : (ℕ → Bool) → (ℕ → Bool) → (ℕ → Bool) → (ℕ → Bool) → Type 0
IsJoined both one two all = (IsSame two both × IsSame all one) ⊎ ((IsSame one both × IsSame all two) ⊎ IsUnion two one all)

-- whatever the rows that come are, the rest of the marks makes the rows of what is in sequence in q: with the
-- leaves from that place on, what is ahead of the next of them, a stack of two tests each (what is ahead of two goals, and
-- behind the first), and the rows so far
abbrev pub MakesRows : {w : ℕ} → Process → List Node → List ℕ → ℕ → (ℕ → Bool) → List ((ℕ → Bool) × (ℕ → Bool)) → List (LeafSet w) → Type 0
MakesRows q [] ns k ahead forks rows = AreRowsOf (InSequence q) ns rows
MakesRows {w} q (Leaf ∷ nodes) ns k ahead forks rows = MatchOption (slice_get ns k) ⊥
    (λ n. (row : LeafSet w) → HasThose ahead row → MakesRows q nodes ns (k + 1) (λ x. x == n || ahead x) forks (rows ++ row ∷ []))
MakesRows q (Fork ∷ nodes) ns k ahead forks rows = MakesRows q nodes ns k ahead ((ahead, ahead) ∷ forks) rows
MakesRows q (Split ∷ nodes) ns k ahead forks rows = WithTop forks (λ top more. MakesRows q nodes ns k top.0 ((top.0, ahead) ∷ more) rows)
MakesRows q (Join ∷ nodes) ns k ahead forks rows = WithTop forks
    (λ top more. (all : ℕ → Bool) → IsJoined top.0 top.1 ahead all → MakesRows q nodes ns k all more rows)
-- the two sides of a choice say nothing of one another either
MakesRows q (Choose ∷ nodes) ns k ahead forks rows = MakesRows q nodes ns k ahead ((ahead, ahead) ∷ forks) rows
MakesRows q (Or ∷ nodes) ns k ahead forks rows = WithTop forks (λ top more. MakesRows q nodes ns k top.0 ((top.0, ahead) ∷ more) rows)
MakesRows q (Chosen ∷ nodes) ns k ahead forks rows = WithTop forks
    (λ top more. (all : ℕ → Bool) → IsJoined top.0 top.1 ahead all → MakesRows q nodes ns k all more rows)
MakesRows q (node ∷ nodes) ns k ahead forks rows = MakesRows q nodes ns k ahead forks rows

-- a word for what is ahead stands for the test: by the leaves, the rows so far, and the sets that are kept
abbrev pub StandsFor : {w : ℕ} → List ℕ → List (LeafSet w) → List (LeafSet w) → Ahead → (ℕ → Bool) → Type 0
StandsFor {w} ns rows joined (Behind i) test =
    (n : ℕ) × (row : LeafSet w) × (slice_get ns i ≡ Some n) × (slice_get rows i ≡ Some row) × ((x : ℕ) → test x ≡ (x == n || has_leaf row x))
StandsFor {w} ns rows joined (Joined i) test = (set : LeafSet w) × (slice_get joined i ≡ Some set) × HasThose test set

abbrev pub StandForAll : {w : ℕ} → List ℕ → List (LeafSet w) → List (LeafSet w) → List Forked → List ((ℕ → Bool) × (ℕ → Bool)) → Type 0
StandForAll ns rows joined [] [] = Unit {0}
StandForAll ns rows joined [] (tests ∷ more) = ⊥
StandForAll ns rows joined (fork ∷ forks) [] = ⊥
StandForAll ns rows joined (fork ∷ forks) (tests ∷ more) =
    StandsFor ns rows joined fork.both tests.0 × StandsFor ns rows joined fork.first tests.1 × StandForAll ns rows joined forks more

-- the rows with one more, which has what passes the test
abbrev pub IsOneMore : {w : ℕ} → (ℕ → Bool) → List (LeafSet w) → List (LeafSet w) → Type 0
IsOneMore {w} test old new = (row : LeafSet w) × (new ≡ old ++ row ∷ []) × HasThose test row

-- so does the rest with what these stand for
abbrev pub MakesRowsBy : {w : ℕ} → Process → List Node → List ℕ → List (LeafSet w) → Ahead → List Forked → List (LeafSet w) → Type 0
MakesRowsBy q nodes ns joined a stack rows = (ahead : ℕ → Bool) × (forks : List ((ℕ → Bool) × (ℕ → Bool))) ×
    StandsFor ns rows joined a ahead × StandForAll ns rows joined stack forks × MakesRows q nodes ns (length rows) ahead forks rows

-- and from a sweep on
abbrev pub Completes : {w : ℕ} → Process → List Node → List ℕ → Sweep w → Type 0
Completes q nodes ns s = MakesRowsBy q nodes ns s.joined.items s.ahead (reverse s.forks.items) s.rows.items

-- the mark was read
abbrev pub Passes : {w : ℕ} → Node → List ℕ → Sweep w → Sweep w → Type 0
Passes node ns old new = (q : Process) (nodes : List Node) → Completes q (node ∷ nodes) ns old → Completes q nodes ns new
