-- Parts of which something is known by the places of others.
use Rattle.std.specs.Prelude.{◌≡◌, ◌≢◌, ◌≤◌, ℕ, Bool, List, Option, Some, None, map}
use Rattle.leaf_rows.specs.Leaves.{has_leaf}
use Rattle.leaf_rows.specs.declared.leaf_set.LeafSet.{LeafSet}
use Rattle.flow_plan.specs.declared.known.Known.{Known}
use Rattle.flow_plan.specs.declared.part_row.PartRow.{PartRow}
use Rattle.flow_plan.specs.declared.span.Span.{Span}
use Rattle.flow_model.specs.Lists.{Each}
use Rattle.flow_plan.specs.Parts.{IsPlaced}

-- there is a span, and the other has all of it
abbrev pub IsAround : Option Span → Span → Type 0
IsAround None t = ⊥
IsAround (Some s) t = (t.first ≤ s.first) × (s.end ≤ t.end)

-- there is a span, and it has all of the other
abbrev pub IsWithin : Option Span → Span → Type 0
IsWithin None t = ⊥
IsWithin (Some s) t = (s.first ≤ t.first) × (t.end ≤ s.end)

-- the spans of the parts, one for each
abbrev pub AreSpansOf : {w : ℕ} → List Span → List (PartRow w) → Type 0
AreSpansOf {w} spans parts = spans ≡ map (λ (row : PartRow w). row.span) parts

-- each part stands at the places of its span, and the spans are theirs
abbrev pub AreLaidOut : {w : ℕ} → List ℕ → List Span → List (PartRow w) → Type 0
AreLaidOut ns spans parts = Each (IsPlaced ns) parts × AreSpansOf spans parts

-- it is another leaf than that one, and done just where so
abbrev pub IsAside : {w : ℕ} → LeafSet w → Bool → ℕ → ℕ → Type 0
IsAside done so leaf n = (n ≢ leaf) × (has_leaf done n ≡ so)

-- each of the leaves is another one than that, and all of them are done or none is
abbrev pub AreAside : {w : ℕ} → LeafSet w → ℕ → List ℕ → Type 0
AreAside done leaf ns = (so : Bool) × Each (IsAside done so leaf) ns

-- P holds of each part around the one span, and of each within the other
pub record IsKnown {w : ℕ} (P : PartRow w → Type 0) (ns : List ℕ) (known : Known) : Type 0 where
  pub around : (row : PartRow w) → IsPlaced ns row → IsAround known.around row.span → P row
  pub within : (row : PartRow w) → IsPlaced ns row → IsWithin known.within row.span → P row
