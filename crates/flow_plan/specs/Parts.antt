-- Rows of bits for the isolated parts of a plan.
use Rattle.std.specs.Prelude.{◌≡◌, ◌≢◌, ◌≤◌, ℕ, IsTrue, List, [], ◌∷◌, ◌⊎◌, length}
use Rattle.leaf_rows.specs.Leaves.{has_leaf}
use Rattle.leaf_rows.specs.declared.leaf_set.LeafSet.{LeafSet}
use Rattle.flow_model.specs.Lists.{◌∈◌, Each}
use Rattle.flow_model.specs.Process.{Process, leaves}
use Rattle.flow_model.specs.Ready.{DirectlyBefore, isolated_parts}
use Rattle.flow_plan.specs.declared.cut_sides.CutSides.{CutSides}
use Rattle.flow_plan.specs.declared.part_row.PartRow.{PartRow}
use Rattle.flow_plan.specs.declared.part_row.Reach.{Reach}
use Rattle.flow_plan.specs.declared.part_row.Use.{Use}
use Rattle.flow_plan.specs.declared.part_row.Use.TheVariants.{Beside, First}
use Rattle.flow_plan.specs.declared.span.Span.{Span}
use Rattle.flow_plan.specs.Rows.{IsRowOf}
use Rattle.flow_plan.specs.Ahead.{IsInSome, IsOutside}
use Rattle.flow_plan.specs.Span.{at_span}

-- all with P are one
abbrev pub IsOneAtMost : (ℕ → Type 0) → Type 0
IsOneAtMost P = (x y : ℕ) → P x → P y → x ≡ y

-- the row of the leaves at those places
pub record IsPartFor {w : ℕ} (ns : List ℕ) (before : List (LeafSet w)) (s : Span) (row : PartRow w) : Type 0 where
  pub span : row.span ≡ s
  pub inside : IsRowOf (λ x. x ∈ at_span s ns) row.inside
  pub outside : IsRowOf (IsOutside (at_span s ns) (at_span s before)) row.outside

-- its leaves are those at the places of its span
pub record IsPlaced {w : ℕ} (ns : List ℕ) (row : PartRow w) : Type 0 where
  pub inside : IsRowOf (λ x. x ∈ at_span row.span ns) row.inside
  pub within : row.span.end ≤ length ns

-- the leaves at the places of its span, and what is in some of their rows
abbrev pub Reaches : {w : ℕ} → List ℕ → List (LeafSet w) → Reach w → Type 0
Reaches ns rows reach = IsRowOf (λ x. x ∈ at_span reach.span ns) reach.inside × IsRowOf (IsInSome (at_span reach.span rows)) reach.before

-- one row a span
abbrev pub ArePartsFor : {w : ℕ} → List ℕ → List (LeafSet w) → List Span → List (PartRow w) → Type 0
ArePartsFor ns before [] [] = Unit {0}
ArePartsFor ns before [] (row ∷ rows) = ⊥
ArePartsFor ns before (s ∷ spans) [] = ⊥
ArePartsFor ns before (s ∷ spans) (row ∷ rows) = IsPartFor ns before s row × ArePartsFor ns before spans rows

-- the row of a part: its leaves, and what is outside and directly before one of them
pub record IsPartRow {w : ℕ} (q : Process) (pairs : List (ℕ × ℕ)) (part : Process) (row : PartRow w) : Type 0 where
  pub inside : IsRowOf (λ x. x ∈ leaves part) row.inside
  pub outside : IsRowOf (λ x. ¬ (x ∈ leaves part) × ((y : ℕ) × (y ∈ leaves part) × DirectlyBefore q pairs x y)) row.outside

abbrev pub HasTwo : {w : ℕ} → PartRow w → Type 0
HasTwo row = (x y : ℕ) × (x ≢ y) × IsTrue (has_leaf row.inside x) × IsTrue (has_leaf row.inside y)

abbrev pub HaveSameLeaves : {w : ℕ} → PartRow w → PartRow w → Type 0
HaveSameLeaves one two = (x : ℕ) → has_leaf one.inside x ≡ has_leaf two.inside x

-- no two have the same leaves
abbrev pub HaveOtherLeaves : {w : ℕ} → List (PartRow w) → Type 0
HaveOtherLeaves [] = Unit {0}
HaveOtherLeaves (row ∷ rows) = Each (λ other. ¬ HaveSameLeaves row other) rows × HaveOtherLeaves rows

-- each is the row of a part, each part with two leaves has one, and each set of leaves comes once
pub record ArePartsOf {w : ℕ} (q : Process) (pairs : List (ℕ × ℕ)) (rows : List (PartRow w)) : Type 0 where
  pub sound : (row : PartRow w) → row ∈ rows → (part : Process) × (part ∈ isolated_parts q) × IsPartRow q pairs part row
  pub complete : (part : Process) → part ∈ isolated_parts q →
      IsOneAtMost (λ x. x ∈ leaves part) ⊎ ((row : PartRow w) × (row ∈ rows) × IsPartRow q pairs part row)
  pub placed : Each (IsPlaced (leaves q)) rows
  pub two : Each HasTwo rows
  pub apart : HaveOtherLeaves rows

-- the part lets the leaf come next
pub record PartAllows {w : ℕ} (row : PartRow w) (sides : CutSides w) (n : ℕ) : Type 0 where
  -- it waits until the part is finished, if that is begun
  pub passes : ¬ IsTrue (has_leaf row.inside n) →
      (x y : ℕ) → IsTrue (has_leaf row.inside x) → IsTrue (has_leaf sides.done x) → IsTrue (has_leaf row.inside y) → IsTrue (has_leaf sides.done y)
  -- it begins the part when nothing outside is waited for
  pub begins : IsTrue (has_leaf row.inside n) → ((x : ℕ) → IsTrue (has_leaf row.inside x) → ¬ IsTrue (has_leaf sides.done x)) →
      (x : ℕ) → IsTrue (has_leaf row.outside x) → IsTrue (has_leaf sides.settled x)

-- the part waits for that leaf before it lets the other come next
abbrev pub IsWaitedFor : {w : ℕ} → PartRow w → CutSides w → ℕ → ℕ → Type 0
IsWaitedFor row sides n first = (IsTrue (has_leaf row.inside n) × IsTrue (has_leaf row.outside first) × ¬ IsTrue (has_leaf sides.settled first))
    ⊎ (¬ IsTrue (has_leaf row.inside n) × IsTrue (has_leaf row.inside first) × ¬ IsTrue (has_leaf sides.done first))

-- the part has all with P, or none of them
abbrev pub KeepsTogether : {w : ℕ} → PartRow w → (ℕ → Type 0) → Type 0
KeepsTogether row P = (x y : ℕ) → P x → P y → IsTrue (has_leaf row.inside x) → IsTrue (has_leaf row.inside y)

-- the part has the leaf and all with P, or none of them
abbrev pub KeepsBeside : {w : ℕ} → PartRow w → (ℕ → Type 0) → ℕ → Type 0
KeepsBeside row P n = KeepsTogether row (λ x. (x ≡ n) ⊎ P x)

-- the part has all with P, or none of them; and all, where it has the leaf
abbrev pub KeepsAfter : {w : ℕ} → PartRow w → (ℕ → Type 0) → ℕ → Type 0
KeepsAfter row P n = KeepsTogether row P × (IsTrue (has_leaf row.inside n) → (x : ℕ) → P x → IsTrue (has_leaf row.inside x))

-- the part keeps the leaf for that use, by the claimed ones with P
abbrev pub Keeps : {w : ℕ} → Use → PartRow w → (ℕ → Type 0) → ℕ → Type 0
Keeps Beside = KeepsBeside
Keeps First = KeepsAfter
