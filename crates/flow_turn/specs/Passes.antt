-- What contracts see of a pass, and what a turn does to it.
use Rattle.std.specs.Prelude.{◌≡◌, ℕ, ◌+◌, ◌-◌, ◌≤◌, List, [], ◌++◌, ◌∷◌, Option, Some}
use Rattle.flow_model.specs.Lists.{Each}
use Rattle.atomic_table.specs.Seated.{TableId}
use Rattle.atomic_table.specs.declared.shared.Seat.{Seat}
use Rattle.flow_turn.specs.declared.view.View.{View}
use Rattle.flow_turn.specs.declared.view.Stage.TheVariants.{Idle, Serving}
use Rattle.flow_turn.specs.Entries.{Finds}

-- What a caller knows by its pass
pub record Knowledge (E F : Type 0) : Type 0 where
  -- the lock that gave the pass
  pub lock : TableId
  pub number : ℕ
  -- how many passes were split from it, and how many of these were not joined
  pub given : ℕ
  pub outs : ℕ
  -- the list, as far as the caller has seen it
  pub seen : List E
  -- what the caller's own turns added
  pub mine : List E
  -- the passes that were joined into it, each with its own entries
  pub joined : List (ℕ × List E)
  -- the part of the value that stays
  pub part : Option F

-- what the caller in this seat knows
abbrev pub known_of : {T E F : Type 0} → Seat (Option T) (View E F) → Knowledge E F
known_of {T} {E} {F} seat = let v : View E F = seat.me.0 in
    record { lock = seat.table_id; number = v.number; given = v.given; outs = v.outs; seen = v.seen; mine = v.mine; joined = v.joined; part = v.part }

-- these are the pass's numbers
abbrev pub Counts : {E F : Type 0} → ℕ → ℕ → ℕ → Knowledge E F → Type 0
Counts number given outs known = (number ≡ known.number) × (given ≡ known.given) × (outs ≡ known.outs) × (outs ≤ given)

-- the seat is the same, whatever it knows and holds
abbrev pub IsSameSeat : {T E F : Type 0} → Seat (Option T) (View E F) → Seat (Option T) (View E F) → Type 0
IsSameSeat old new = (new.table_id ≡ old.table_id) × (new.id ≡ old.id)

-- the table has three words and a slot, and the seat is one of its own
abbrev pub IsOfTable : {T E F : Type 0} → TableId → Seat (Option T) (View E F) → Type 0
IsOfTable table seat = (seat.table_id ≡ table) × (table.words ≡ 3) × (table.slots ≡ 1)

-- the root pass of a new lock over a value with this fixed part
abbrev pub root_pass : {E F : Type 0} → TableId → F → Knowledge E F
root_pass lock part = record { lock = lock; number = 0; given = 0; outs = 0; seen = []; mine = []; joined = []; part = Some part }

-- what the next pass that is split from the root knows
abbrev pub split_pass : {E F : Type 0} → Knowledge E F → Knowledge E F
split_pass root = record { lock = root.lock; number = root.given + 1; given = 0; outs = 0; seen = root.seen; mine = []; joined = []; part = root.part }

-- what the root knows after the pass was joined into it, where it has then seen this much
abbrev pub joined_root : {E F : Type 0} → Knowledge E F → Knowledge E F → List E → Knowledge E F
joined_root root pass seen = record root { outs = root.outs - 1; seen = seen; joined = root.joined ++ (pass.number, pass.mine) ∷ [] }

-- the seat is at no turn, and holds no slot
abbrev pub IsAtRest : {T E F : Type 0} → Seat (Option T) (View E F) → Type 0
IsAtRest {T} {E} {F} seat = let v : View E F = seat.me.0 in (v.stage ≡ Idle) × (seat.me.1 ≡ [])

-- the seat has its turn, and the value, whose whole list it has seen
abbrev pub HasTurn : {T E F : Type 0} → (T → List E) → (T → F) → Seat (Option T) (View E F) → Type 0
HasTurn {T} {E} {F} entries fixed seat = let v : View E F = seat.me.0 in
    (v.stage ≡ Serving) × ((value : T) × (seat.me.1 ≡ (0, Some value) ∷ []) × (v.seen ≡ entries value) × (v.part ≡ Some (fixed value)))

-- What a job does with the value that a caller found: it adds entries in the caller's name. The caller has then seen the
-- whole list, and has these as its own
pub record Works {T E F A : Type 0} (entries : T → List E) (caller : E → ℕ) (fixed : T → F) (does : T → ℕ → A → T → Type 0) (before : T) (old : Knowledge E F) (answer : A) (new : Knowledge E F) : Type 0 where
  pub after : T
  pub added : List E
  pub done : does before old.number answer after
  pub list : entries after ≡ entries before ++ added
  pub own : Each (λ e. caller e ≡ old.number) added
  pub stays : fixed after ≡ fixed before
  pub learns : new ≡ record old { seen = entries after; mine = old.mine ++ added }

-- What one turn does: the caller finds a value, and its job is done with that value
pub record Turned {T E F A : Type 0} (entries : T → List E) (caller : E → ℕ) (fixed : T → F) (does : T → ℕ → A → T → Type 0) (old : Knowledge E F) (answer : A) (new : Knowledge E F) : Type 0 where
  pub value : T
  pub finds : Finds entries caller fixed old.number old.seen old.mine old.joined old.part value
  pub works : Works entries caller fixed does value old answer new
