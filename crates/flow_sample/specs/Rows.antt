-- Items by their rows: what is inside, and what they wait for.
use Rattle.std.specs.Prelude.{◌≡◌, ◌<◌, ◌≤◌, ℕ, Bool, false, IsTrue, List, [], ◌↔◌, Option, Some, None, length, map, slice_get}
use Rattle.leaf_rows.specs.Leaves.{has_leaf}
use Rattle.flow_model.specs.Lists.{joined}
use Rattle.flow_sample.specs.declared.item.Item.{Item}

abbrev pub has_inside : {words : ℕ} → Option (Item words) → ℕ → Bool
has_inside None x = false
has_inside (Some item) x = has_leaf item.inside x

abbrev pub has_waits : {words : ℕ} → Option (Item words) → ℕ → Bool
has_waits None x = false
has_waits (Some item) x = has_leaf item.waits x

abbrev pub run_in : {words : ℕ} → Option (Item words) → List ℕ
run_in None = []
run_in (Some item) = item.run.items

abbrev pub least_in : {words : ℕ} → Option (Item words) → ℕ
least_in None = 0
least_in (Some item) = item.least

-- x is a leaf of the item of that number
abbrev pub IsIn : {words : ℕ} → List (Item words) → ℕ → ℕ → Type 0
IsIn items n x = IsTrue (has_inside (slice_get items n) x)

-- x is a leaf outside it that is directly before one of its leaves
abbrev pub WaitsFor : {words : ℕ} → List (Item words) → ℕ → ℕ → Type 0
WaitsFor items n x = IsTrue (has_waits (slice_get items n) x)

-- the first is before the second
abbrev pub IsEdge : {words : ℕ} → List (Item words) → ℕ → ℕ → Type 0
IsEdge items from to = (x : ℕ) × IsIn items from x × WaitsFor items to x

abbrev pub least_at : {words : ℕ} → List (Item words) → ℕ → ℕ
least_at items n = least_in (slice_get items n)

-- the runs of the items in that order
abbrev pub runs : {words : ℕ} → List (Item words) → List ℕ → List ℕ
runs items order = joined (map (λ n. run_in (slice_get items n)) order)

abbrev pub HasSome : {words : ℕ} → List (Item words) → Type 0
HasSome items = (n x : ℕ) × IsIn items n x

-- each has a leaf, which are all less than those of the items behind it, and none waits for its own
pub record AreApart {words : ℕ} (items : List (Item words)) : Type 0 where
  pub some : (n : ℕ) → n < length items → (x : ℕ) × IsIn items n x
  pub apart : (m n x : ℕ) → IsIn items m x → IsIn items n x → m ≡ n
  pub others : (n x : ℕ) → WaitsFor items n x → ¬ (IsIn items n x)
  pub rising : (m n x y : ℕ) → m < n → IsIn items m x → IsIn items n y → x < y
  pub least : (n : ℕ) → n < length items → IsIn items n (least_at items n)
  pub none_less : (n x : ℕ) → IsIn items n x → least_at items n ≤ x

-- the items as one, with that run
pub record IsOneOf {words : ℕ} (items : List (Item words)) (run : List ℕ) (item : Item words) : Type 0 where
  pub inside : (x : ℕ) → IsTrue (has_leaf item.inside x) ↔ ((n : ℕ) × IsIn items n x)
  pub waits : (x : ℕ) → IsTrue (has_leaf item.waits x) ↔ (((n : ℕ) × WaitsFor items n x) × ¬ ((n : ℕ) × IsIn items n x))
  pub least : IsTrue (has_leaf item.inside item.least)
  pub none_less : (k : ℕ) → k < item.least → ¬ (IsTrue (has_leaf item.inside k))
  pub runs_so : item.run.items ≡ run
