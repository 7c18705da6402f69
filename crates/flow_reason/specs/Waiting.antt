-- Leaves that the goal, or the constraints, keep from coming next.
use Rattle.std.specs.Prelude.{◌<◌, ◌↔◌, ℕ, Bool, false, IsTrue, List, [], ◌∷◌, ◌++◌, length, slice_index_or}
use Rattle.flow_model.specs.Lists.{◌∈◌, Each, Begins, StandsBefore}
use Rattle.flow_model.specs.Trace.{Trace}
use Rattle.flow_conflict.specs.Conflict.{IsConflict, IsLeast}
use Rattle.flow_why.specs.Constraints.{IsMet, IsWithin}
use Rattle.flow_core.specs.Run.{Run, schema, now}

-- some trace of the goal, whatever the constraints, begins with the list
abbrev pub BeginsTrace : Run → List ℕ → Type 0
BeginsTrace r list = (t : List ℕ) × Trace (schema r).goal t × Begins t list

-- the journal, and then the leaf
abbrev pub with_next : Run → ℕ → List ℕ
with_next r leaf = (now r).journal ++ leaf ∷ []

-- the other leaf is not done, and stands before the leaf in each trace of the goal that begins with the journal and has the leaf
abbrev pub IsBefore : Run → ℕ → ℕ → Type 0
IsBefore r leaf other =
    ¬ (other ∈ (now r).journal) × ((t : List ℕ) → Trace (schema r).goal t → Begins t (now r).journal → leaf ∈ t → StandsBefore other leaf t)

-- the other leaf is done, and no trace of the goal has both
pub record IsOtherSide (r : Run) (leaf other : ℕ) : Type 0 where
  pub is_done : other ∈ (now r).journal
  pub apart : (t : List ℕ) → Trace (schema r).goal t → leaf ∈ t → ¬ (other ∈ t)

-- of each leaf of the goal, whether it is done
abbrev pub AreFlags : Run → List Bool → Type 0
AreFlags r flags = (n : ℕ) → n < length (schema r).labels → IsTrue (slice_index_or flags n false) ↔ (n ∈ (now r).journal)

-- the goal alone does not let it come next; those leaves come first
pub record WaitsByGoal (r : Run) (leaf : ℕ) (leaves : List ℕ) : Type 0 where
  pub not_next : ¬ (BeginsTrace r (with_next r leaf))
  pub before : Each (IsBefore r leaf) leaves

-- no trace of the goal that begins with the journal and then the leaf meets these constraints; and each of them is needed for that, or
-- undecided, since to see it passes the limits
pub record IsNotNext (r : Run) (leaf : ℕ) (constraints undecided : List ℕ) : Type 0 where
  pub conflict : IsConflict (IsMet (schema r) (with_next r leaf)) (length (schema r).rules) constraints
  pub least : IsLeast (IsMet (schema r) (with_next r leaf)) (IsWithin (schema r)) constraints undecided

-- so it is, by one constraint at least
pub record WaitsByConstraints (r : Run) (leaf : ℕ) (constraints undecided : List ℕ) : Type 0 where
  pub some : 0 < length constraints
  pub not_next : IsNotNext r leaf constraints undecided
