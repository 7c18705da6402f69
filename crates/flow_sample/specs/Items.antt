-- The items of a part by their rows.
use Rattle.std.specs.Prelude.{◌≡◌, ℕ, IsTrue, List, [], ◌∷◌, ◌++◌, ◌↔◌, slice_index_or}
use Rattle.leaf_rows.specs.Leaves.{has_leaf}
use Rattle.flow_model.specs.Lists.{◌∈◌, AreDistinct, StandsBefore}
use Rattle.flow_model.specs.Process.{Process, leaves}
use Rattle.flow_model.specs.Ready.{DirectlyBefore, isolated_parts}
use Rattle.flow_model.specs.Circle.{items_of, least_of, IsCircle}
use Rattle.flow_sample.specs.declared.item.Item.{Item}
use Rattle.flow_sample.specs.declared.sample.ExciseRefusal.{ExciseRefusal}
use Rattle.flow_sample.specs.declared.sample.ExciseRefusal.TheVariants.{Circle, NoMemory}

-- the item of that number
abbrev pub item_at : List (List ℕ) → ℕ → List ℕ
item_at items number = slice_index_or items number []

-- the leaves of the list, each behind those directly before it, and with nothing between two leaves of an isolated part
pub record IsLinedUp (q : Process) (pairs : List (ℕ × ℕ)) (list run : List ℕ) : Type 0 where
  pub leaf : (x : ℕ) → x ∈ run → x ∈ list
  pub all : (x : ℕ) → x ∈ list → x ∈ run
  pub distinct : AreDistinct run
  pub before : (x y : ℕ) → x ∈ list → y ∈ list → DirectlyBefore q pairs x y → StandsBefore x y run
  pub together : (part : Process) → part ∈ isolated_parts q → (x y z : ℕ) → x ∈ leaves part → ¬ (y ∈ leaves part) → z ∈ leaves part →
      StandsBefore x y run → StandsBefore y z run → ⊥

-- the item with those leaves
pub record IsItemOf {words : ℕ} (q : Process) (pairs : List (ℕ × ℕ)) (list : List ℕ) (item : Item words) : Type 0 where
  pub inside : (x : ℕ) → IsTrue (has_leaf item.inside x) ↔ (x ∈ list)
  pub waits : (x : ℕ) → IsTrue (has_leaf item.waits x) ↔ (((y : ℕ) × (y ∈ list) × DirectlyBefore q pairs x y) × ¬ (x ∈ list))
  pub least : item.least ≡ least_of list
  pub run : IsLinedUp q pairs list item.run.items

-- one item a list
abbrev pub AreItemsOf : {words : ℕ} → Process → List (ℕ × ℕ) → List (List ℕ) → List (Item words) → Type 0
AreItemsOf q pairs [] [] = Unit {0}
AreItemsOf q pairs [] (item ∷ items) = ⊥
AreItemsOf q pairs (list ∷ lists) [] = ⊥
AreItemsOf q pairs (list ∷ lists) (item ∷ items) = IsItemOf q pairs list item × AreItemsOf q pairs lists items

-- the items of the goal are added
pub record AddsItems {words : ℕ} (q : Process) (pairs : List (ℕ × ℕ)) (g : Process) (old new : List (Item words)) : Type 0 where
  pub added : List (Item words)
  pub is : new ≡ old ++ added
  pub items : AreItemsOf q pairs (items_of g) added

-- a circle of the option; or nothing is said
abbrev pub TellsCircle : Process → List (ℕ × ℕ) → ExciseRefusal → Type 0
TellsCircle q pairs (Circle circle) = IsCircle q pairs circle.leaves.items
TellsCircle q pairs NoMemory = Unit {0}
