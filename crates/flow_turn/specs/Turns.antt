-- The rule of a lock that is given in turns: what holds between any two steps.
-- Word 0 counts the tickets drawn, word 1 those served, and word 2 the entries, each modulo 2^64. The value is in the one slot.
use Rattle.std.specs.Prelude.{◌≡◌, ◌≢◌, ◌⊎◌, ℕ, ◌+◌, ◌%◌, ◌^◌, ◌<◌, ◌≤◌, List, [], ◌∷◌, length, Option, Some}
use mathlib.Core.Option.{some, none}
use mathlib.Core.Option as maybe
use lib.ListN.{get_elem?}
use Rattle.flow_model.specs.Lists.{Begins, Each}
use Rattle.atomic_table.specs.Table.{State}
use Rattle.flow_turn.specs.declared.view.View.{View}
use Rattle.flow_turn.specs.declared.view.Stage.{Stage}
use Rattle.flow_turn.specs.declared.view.Stage.TheVariants.{Idle, Waiting, Serving, Joined}
use Rattle.flow_turn.specs.Entries.{made_by, AreMade}

-- 1 where the caller has a ticket, and else 0
abbrev pub tickets_at : Stage → ℕ
tickets_at Waiting = 1
tickets_at Serving = 1
tickets_at other = 0

-- 0 where the pass was joined, and else 1
abbrev pub living_at : Stage → ℕ
living_at Joined = 0
living_at other = 1

abbrev pub tickets_of : {E F : Type 0} → View E F → ℕ
tickets_of v = tickets_at v.stage

abbrev pub living_of : {E F : Type 0} → View E F → ℕ
living_of v = living_at v.stage

-- f of each, added up
abbrev pub total : {A : Type 0} → (A → ℕ) → List A → ℕ
total f [] = 0
total f (x ∷ xs) = f x + total f xs

-- a ticket that is drawn is served now or later, and who is served has seen the whole list
abbrev pub Stands : {E : Type 0} → ℕ → ℕ → List E → ℕ → List E → Stage → Type 0
Stands served drawn log ticket seen Waiting = (served ≤ ticket) × (ticket < drawn)
Stands served drawn log ticket seen Serving = (ticket ≡ served) × (seen ≡ log)
Stands served drawn log ticket seen other = Unit {0}

-- What the caller with this number knows: two beginnings of the list, and which of its entries its own turns added and
-- those of the passes joined into it
pub record Knows {E F : Type 0} (caller : E → ℕ) (part : F) (drawn served : ℕ) (log : List E) (number : ℕ) (v : View E F) : Type 0 where
  pub named : v.number ≡ number
  pub fixed : v.part ≡ Some part
  pub seen : Begins log v.seen
  pub beside : Begins log v.beside
  pub mine : made_by caller number log ≡ v.mine
  pub joined : AreMade caller v.joined log
  pub stands : Stands served drawn log v.ticket v.seen v.stage

-- the pass with this number was joined
abbrev pub IsGone : {E F : Type 0} → List (View E F) → ℕ → Type 0
IsGone {E} {F} views number = (u : View E F) × (get_elem? views number ≡ some u) × (living_of u ≡ 0)

-- the value is at home, with these entries, and nobody is served
pub record IsHome {T E F : Type 0} (entries : T → List E) (fixed : T → F) (part : F) (homes : List (maybe.Option (Option T))) (log : List E) (views : List (View E F)) : Type 0 where
  pub value : T
  pub slot : homes ≡ some (Some value) ∷ []
  pub list : entries value ≡ log
  pub stays : fixed value ≡ part
  pub unserved : (j : ℕ) (v : View E F) → get_elem? views j ≡ some v → v.stage ≢ Serving

-- the value is out with the caller who is served
pub record IsOut {T E F : Type 0} (homes : List (maybe.Option (Option T))) (views : List (View E F)) : Type 0 where
  pub slot : homes ≡ none ∷ []
  pub seat : ℕ
  pub view : View E F
  pub there : get_elem? views seat ≡ some view
  pub served : view.stage ≡ Serving

-- where the value is
abbrev pub Place : {T E F : Type 0} → (T → List E) → (T → F) → F → List (maybe.Option (Option T)) → List E → List (View E F) → Type 0
Place entries fixed part homes log views = IsHome entries fixed part homes log views ⊎ IsOut homes views

-- The rule. A view's number is its place among the views, in the order in which passes were split
pub record IsInTurns {T E F : Type 0} (entries : T → List E) (caller : E → ℕ) (fixed : T → F) (part : F) (s : State (Option T) (View E F)) : Type 0 where
  -- how many tickets were drawn, and how many served
  pub drawn : ℕ
  pub served : ℕ
  -- the one list
  pub log : List E
  pub words : s.words ≡ drawn % 2 ^ 64 ∷ served % 2 ^ 64 ∷ length log % 2 ^ 64 ∷ []
  pub value : Place entries fixed part s.homes log s.views
  pub tickets : served + total tickets_of s.views ≡ drawn
  -- the root counts the passes split, and those that were not joined
  pub root : (v : View E F) → get_elem? s.views 0 ≡ some v → (length s.views ≡ v.given + 1) × (total living_of s.views ≡ v.outs + 1)
  -- so tickets with one remainder modulo 2^64 are one
  pub few : length s.views ≤ 2 ^ 32
  -- each entry names a view
  pub callers : Each (λ e. caller e < length s.views) log
  pub knows : (j : ℕ) (v : View E F) → get_elem? s.views j ≡ some v → living_of v ≡ 1 → Knows caller part drawn served log j v
  pub gone : (j : ℕ) (v : View E F) → get_elem? s.views j ≡ some v → Each (λ c. IsGone s.views c.0) v.joined
  -- no two views have one ticket
  pub apart : (i j : ℕ) (v w : View E F) → get_elem? s.views i ≡ some v → get_elem? s.views j ≡ some w → tickets_of v ≡ 1 → tickets_of w ≡ 1 → v.ticket ≡ w.ticket → i ≡ j

-- the view of the first pass
abbrev pub root_view : {E F : Type 0} → F → View E F
root_view part = record { number = 0; given = 0; outs = 0; stage = Idle; ticket = 0; seen = []; beside = []; mine = []; joined = []; part = Some part }
