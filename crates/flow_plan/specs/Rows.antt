-- Rows of bits: for each leaf of a plan the leaves directly before it.
use Rattle.std.specs.Prelude.{ℕ, Bool, IsTrue, List, [], ◌∷◌, ◌⊎◌, ◌↔◌}
use Rattle.leaf_rows.specs.Leaves.{has_leaf}
use Rattle.leaf_rows.specs.declared.leaf_set.LeafSet.{LeafSet}
use Rattle.flow_model.specs.Process.{Process, leaves}
use Rattle.flow_model.specs.Ready.{InSequence}

-- the members of the row are those with P
abbrev pub IsRowOf : {w : ℕ} → (ℕ → Type 0) → LeafSet w → Type 0
IsRowOf P row = (x : ℕ) → IsTrue (has_leaf row x) ↔ P x

-- one row a leaf, whose members x are those with P x of the leaf
abbrev pub AreRowsOf : {w : ℕ} → (ℕ → ℕ → Type 0) → List ℕ → List (LeafSet w) → Type 0
AreRowsOf P [] [] = Unit {0}
AreRowsOf P [] (row ∷ rows) = ⊥
AreRowsOf P (n ∷ ns) [] = ⊥
AreRowsOf P (n ∷ ns) (row ∷ rows) = IsRowOf (λ x. P x n) row × AreRowsOf P ns rows

-- rows of the leaves of the goal, with what is ahead of the whole goal, and what is before the leaf in it
abbrev pub HasRows : {w : ℕ} → Process → (ℕ → Bool) → List (LeafSet w) → Type 0
HasRows g ahead rows = AreRowsOf (λ x n. IsTrue (ahead x) ⊎ InSequence g x n) (leaves g) rows
