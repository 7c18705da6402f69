-- What each step of a lock tells the caller that makes it.
use Rattle.std.specs.Prelude.{◌≡◌, ◌≢◌, ℕ, ◌+◌, ◌-◌, ◌%◌, ◌^◌, List, [], ◌∷◌, ◌++◌, length, drop, Option, Some, None}
use Rattle.flow_model.specs.Lists.{Begins}
use Rattle.atomic_table.specs.Table.{Me}
use Rattle.flow_turn.specs.declared.view.View.{View}
use Rattle.flow_turn.specs.declared.view.Stage.TheVariants.{Idle, Waiting, Serving, Joined}
use Rattle.flow_turn.specs.Entries.{Finds}

-- what a seat knows, and the slots that it has taken
abbrev pub Seated : Type 0 → Type 0 → Type 0 → Type 0
Seated T E F = Me (Option T) (View E F)

-- the list of the value in a slot
abbrev pub list_of : {T E : Type 0} → (T → List E) → Option T → List E
list_of entries None = []
list_of entries (Some value) = entries value

-- the list of the value in the slot taken last
abbrev pub list_in : {T E : Type 0} → (T → List E) → List (ℕ × Option T) → List E
list_in entries [] = []
list_in entries (x ∷ xs) = list_of entries x.1

module _ {T E F : Type 0} where
  -- a ticket is drawn, and the word was its remainder modulo 2^64
  abbrev pub drew : Seated T E F → ℕ → Seated T E F → Type 0
  drew m found n = (ticket : ℕ) × (n ≡ (record m.0 { stage = Waiting; ticket = ticket }, m.1)) × (found ≡ ticket % 2 ^ 64)

  -- The value is out with the caller, who found it and has seen its whole list
  abbrev pub Takes : (T → List E) → (E → ℕ) → (T → F) → Seated T E F → Seated T E F → Type 0
  Takes entries caller fixed m n =
      (value : T) × (n ≡ (record m.0 { stage = Serving; seen = entries value }, (0, Some value) ∷ m.1)) × Finds entries caller fixed m.0.number m.0.seen m.0.mine m.0.joined m.0.part value

  -- where the word is the ticket's, the value is taken; else nothing changes
  abbrev pub looked : (T → List E) → (E → ℕ) → (T → F) → Seated T E F → ℕ → Seated T E F → Type 0
  looked entries caller fixed m found n =
      (found ≡ m.0.ticket % 2 ^ 64 → Takes entries caller fixed m n) × (found ≢ m.0.ticket % 2 ^ 64 → n ≡ m)

  -- the caller has seen the whole list of the value in hand, and what is new in it is its own
  abbrev pub counted : (T → List E) → Seated T E F → Seated T E F → Type 0
  counted entries m n = n ≡ (record m.0 { seen = list_in entries m.1; mine = m.0.mine ++ drop (length m.0.seen) (list_in entries m.1) }, m.1)

  -- the value is given back
  abbrev pub passed : Seated T E F → Seated T E F → Type 0
  passed m n = n ≡ (record m.0 { stage = Idle }, [])

  -- the root has seen the whole list, which begins with what it had seen and with what the joined pass had
  abbrev pub settled : Seated T E F → Seated T E F → Type 0
  settled m n = (log : List E) × (n ≡ (record m.0 { seen = log; beside = [] }, m.1)) × Begins log m.0.seen × Begins log m.0.beside

module _ {E F : Type 0} where
  -- the root, after a split, and the view of the pass that was split from it
  abbrev pub giving : View E F → View E F
  giving v = record v { given = v.given + 1; outs = v.outs + 1 }

  abbrev pub given_view : View E F → View E F
  given_view v = record { number = v.given + 1; given = 0; outs = 0; stage = Idle; ticket = 0; seen = v.seen; beside = []; mine = []; joined = []; part = v.part }

  -- the root, after a join, and what is left of the view that was joined
  abbrev pub taking : View E F → View E F → View E F
  taking v w = record v { outs = v.outs - 1; beside = w.seen; joined = v.joined ++ (w.number, w.mine) ∷ [] }

  abbrev pub joined_view : View E F
  joined_view = record { number = 0; given = 0; outs = 0; stage = Joined; ticket = 0; seen = []; beside = []; mine = []; joined = []; part = None }
