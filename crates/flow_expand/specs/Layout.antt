-- Goals with sub-workflows in place as pieces of a layout, which refer to earlier pieces.
use Rattle.std.specs.Prelude.{◌≡◌, ℕ, ◌<◌, List, slice_get, Some}
use Rattle.std.proofs.Common.{Bor}
use Rattle.flow_model.specs.declared.labels.Label.{Label}
use Rattle.flow_model.specs.declared.labels.Label.TheVariants as label
use Rattle.flow_facts.specs.Atom.{Atom}
use Rattle.flow_model.specs.declared.operators.Operator.{Operator}
use Rattle.flow_model.specs.declared.operators.Operator.TheVariants as how
use Rattle.flow_model.specs.declared.labels.Deed.{Deed}
use Rattle.flow_model.specs.declared.labels.Deed.TheVariants as deed
use Rattle.flow_expand.specs.declared.layout.Piece.{Piece}
use Rattle.flow_expand.specs.declared.layout.Piece.TheVariants as piece
use Rattle.flow_expand.specs.declared.layout.Root.{Root}
use Rattle.flow_expand.specs.Expansion.{Expansion, nothing, happens, holds, lacks, adds, takes, in_turn, at_once, one_of, alone, sizes_of}

abbrev pub paired : Operator → Expansion → Expansion → Expansion
paired how.Serial = in_turn
paired how.Beside = at_once
paired how.Either = one_of

-- the leaf that does it with a fact
abbrev pub fact_leaf : Deed → Atom → Expansion
fact_leaf deed.Test = holds
fact_leaf deed.Absent = lacks
fact_leaf deed.Ins = adds
fact_leaf deed.Del = takes

-- the label of that leaf, where the fact has that number
abbrev pub label_of : Deed → ℕ → Label
label_of deed.Test = label.Test
label_of deed.Absent = label.Absent
label_of deed.Ins = label.Ins
label_of deed.Del = label.Del

-- the piece at that place is the goal, an event written as its number
pub data IsPlaced (layout : List Piece) (events : List (List ℕ)) : Expansion → ℕ → Type 0 where
  placed_nothing : {i : ℕ} → slice_get layout i ≡ Some piece.Nop → IsPlaced layout events nothing i
  placed_event : {i k : ℕ} {n : List ℕ} → slice_get layout i ≡ Some (piece.Event k) → slice_get events k ≡ Some n → IsPlaced layout events (happens n) i
  placed_fact : {i : ℕ} {d : Deed} {f : Bor Atom} → slice_get layout i ≡ Some (piece.Fact d f) → IsPlaced layout events (fact_leaf d f.now) i
  placed_pair : {i j k : ℕ} {by : Operator} {a b : Expansion} → slice_get layout i ≡ Some (piece.Pair by j k) → j < i → k < i →
      IsPlaced layout events a j → IsPlaced layout events b k → IsPlaced layout events (paired by a b) i
  placed_alone : {i j : ℕ} {a : Expansion} → slice_get layout i ≡ Some (piece.Iso j) → j < i → IsPlaced layout events a j → IsPlaced layout events (alone a) i

-- the piece is that leaf or nothing
abbrev pub IsPlain : List (List ℕ) → Piece → Expansion → Type 0
IsPlain events piece.Nop e = e ≡ nothing
IsPlain events (piece.Event k) e = (n : List ℕ) × (e ≡ happens n) × (slice_get events k ≡ Some n)
IsPlain events (piece.Fact d f) e = e ≡ fact_leaf d f.now
IsPlain events p e = ⊥

-- the root is that of the goal, with its size
pub record IsRoot (layout : List Piece) (events : List (List ℕ)) (e : Expansion) (root : Root) : Type 0 where
  pub placed : IsPlaced layout events e root.place
  pub sized : root.size ≡ sizes_of e
