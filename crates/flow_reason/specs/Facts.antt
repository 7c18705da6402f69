-- What a leaf asks of a fact, and which leaves change it.
use Rattle.std.specs.Prelude.{◌≡◌, ℕ, Bool, true, false, not, ◌&&◌, ◌==◌, IsTrue, IsSomeAnd, List, Some, slice_get}
use Rattle.flow_model.specs.declared.labels.Label.{Label}
use Rattle.flow_model.specs.declared.labels.Label.TheVariants.{Test, Absent, Ins, Del}
use Rattle.flow_model.specs.Lists.{◌∈◌}
use Rattle.flow_model.specs.Run.{database, CanDoAside}
use Rattle.flow_model.specs.Verdict.{AreJust}
use Rattle.flow_core.specs.Run.{Run, schema, now}

-- the label asks that the fact holds, or that it does not
abbrev pub tested : ℕ → Bool → Label
tested fact true = Test fact
tested fact false = Absent fact

-- the label makes the fact hold, or makes it not hold
abbrev pub changes : Label → ℕ → Bool → Bool
changes (Ins other) fact wanted = wanted && (other == fact)
changes (Del other) fact wanted = not wanted && (other == fact)
changes other fact wanted = false

-- the leaf would make the fact as it is wanted, and is not done
abbrev pub IsLeftTo : Run → ℕ → Bool → ℕ → Type 0
IsLeftTo r fact wanted leaf =
    IsSomeAnd (slice_get (schema r).labels leaf) (λ (label : Label). IsTrue (changes label fact wanted)) × ¬ (leaf ∈ (now r).journal)

-- the leaf could be done, but what it asks of the fact is not so; the leaves that would make it so are those
pub record IsFalseNow (r : Run) (leaf fact : ℕ) (wanted : Bool) (leaves : List ℕ) : Type 0 where
  pub aside : CanDoAside (schema r) (now r) leaf
  pub asks : slice_get (schema r).labels leaf ≡ Some (tested fact wanted)
  pub is_not : database (schema r) (now r) fact ≡ not wanted
  pub changed_by : AreJust (IsLeftTo r fact wanted) leaves
