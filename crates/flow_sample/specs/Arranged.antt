-- Items in an order in which each stands behind those before it, or in a ring.
use Rattle.std.specs.Prelude.{◌≡◌, ◌<◌, ℕ, IsTrue, List, [], ◌∷◌, ◌++◌, ◌↔◌, length, map}
use Rattle.leaf_rows.specs.declared.leaf_set.LeafSet.{LeafSet}
use Rattle.leaf_rows.specs.Leaves.{has_leaf}
use Rattle.flow_model.specs.Lists.{◌∈◌, AreDistinct, StandsBefore}
use Rattle.flow_sample.specs.declared.item.Item.{Item}
use Rattle.flow_sample.specs.declared.sample.ExciseRefusal.{ExciseRefusal}
use Rattle.flow_sample.specs.declared.sample.ExciseRefusal.TheVariants.{Circle, NoMemory}
use Rattle.flow_sample.specs.Rows.{IsIn, IsEdge, IsOneOf, least_at, runs}
use Rattle.flow_sample.specs.Turned.{IsTurned}

-- each item of the order stands behind those before it, and the leaves of the others are left
pub record IsArranged {words : ℕ} (items : List (Item words)) (left : LeafSet words) (order : List ℕ) : Type 0 where
  pub distinct : AreDistinct order
  pub within : (n : ℕ) → n ∈ order → n < length items
  pub rest : (x : ℕ) → IsTrue (has_leaf left x) ↔ ((n : ℕ) × IsIn items n x × ¬ (n ∈ order))
  pub behind : (m n : ℕ) → n ∈ order → IsEdge items m n → StandsBefore m n order

-- the new order holds the number, and all that the old one holds
pub record TakesIn (n : ℕ) (old new : List ℕ) : Type 0 where
  pub here : n ∈ new
  pub kept : (m : ℕ) → m ∈ old → m ∈ new

-- all items in an order
pub record IsWholeOrder {words : ℕ} (items : List (Item words)) (order : List ℕ) : Type 0 where
  pub distinct : AreDistinct order
  pub within : (n : ℕ) → n ∈ order → n < length items
  pub all : (n : ℕ) → n < length items → n ∈ order
  pub behind : (m n : ℕ) → IsEdge items m n → StandsBefore m n order

-- their runs in such an order
abbrev pub IsRunOf : {words : ℕ} → List (Item words) → List ℕ → Type 0
IsRunOf items run = (order : List ℕ) × IsWholeOrder items order × (run ≡ runs items order)

-- each item is before the next, and the last before that one
abbrev pub LeadsOn : {words : ℕ} → List (Item words) → ℕ → ℕ → List ℕ → Type 0
LeadsOn items first n [] = IsEdge items n first
LeadsOn items first n (next ∷ more) = IsEdge items n next × LeadsOn items first next more

-- each item is before the next, and the last before the first
abbrev pub IsCycle : {words : ℕ} → List (Item words) → List ℕ → Type 0
IsCycle items [] = ⊥
IsCycle items (n ∷ more) = LeadsOn items n n more

-- distinct items in a ring
pub record IsNodeRing {words : ℕ} (items : List (Item words)) (ring : List ℕ) : Type 0 where
  pub distinct : AreDistinct ring
  pub cycle : IsCycle items ring

-- some items are in a ring, which is written as their least leaves; or nothing is said
abbrev pub TellsRing : {words : ℕ} → List (Item words) → ExciseRefusal → Type 0
TellsRing items (Circle circle) = (ring : List ℕ) × IsNodeRing items ring × IsTurned (map (least_at items) ring) circle.leaves.items
TellsRing items NoMemory = Unit {0}

-- one item more: the inner ones as one, with a run of them
abbrev pub AddsOneOf : {words : ℕ} → List (Item words) → List (Item words) → List (Item words) → Type 0
AddsOneOf {words} inner old new = (item : Item words) × (new ≡ old ++ item ∷ []) × IsOneOf inner item.run.items item × IsRunOf inner item.run.items
