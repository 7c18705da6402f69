-- States, and what labels ask of them and do to them.
use Rattle.std.specs.Prelude.{◌≡◌, ℕ, Bool, true, false, ◌==◌, if◌then◌else◌, List, [], ◌∷◌, Option, Some, None, MatchOption, slice_get}
use Rattle.std.specs.List.{list_any, filter_map}
use Rattle.flow_model.specs.declared.labels.Label.{Label}
use Rattle.flow_model.specs.declared.labels.Label.TheVariants.{Event, Test, Absent, Ins, Del}

-- a set of facts, as the test of its members
abbrev pub State : Type 0
State = ℕ → Bool

-- the state in which just these facts hold
abbrev pub state_with : List ℕ → State
state_with facts = λ fact. list_any (λ f. f == fact) facts

-- the label may be performed in the state
abbrev pub Holds : State → Label → Type 0
Holds s (Event e) = Unit {0}
Holds s (Test f) = s f ≡ true
Holds s (Absent f) = s f ≡ false
Holds s (Ins f) = Unit {0}
Holds s (Del f) = Unit {0}

-- the state that the label leaves
abbrev pub after : State → Label → State
after s (Event e) = s
after s (Test f) = s
after s (Absent f) = s
after s (Ins f) = λ fact. if fact == f then true else s fact
after s (Del f) = λ fact. if fact == f then false else s fact

-- the event of a label, if it is one
abbrev pub event_in : Label → Option ℕ
event_in (Event e) = Some e
event_in (Test f) = None
event_in (Absent f) = None
event_in (Ins f) = None
event_in (Del f) = None

-- the event at a leaf, if it has one
abbrev pub event_at : List Label → ℕ → Option ℕ
event_at labels leaf = event_of (slice_get labels leaf)
  where
    event_of : Option Label → Option ℕ
    event_of None = None
    event_of (Some label) = event_in label

-- it is that event
abbrev pub is_event : ℕ → Option ℕ → Bool
is_event e None = false
is_event e (Some other) = other == e

-- the events of a list of leaves, in its order
abbrev pub events_of : List Label → List ℕ → List ℕ
events_of labels t = filter_map (event_at labels) t

-- the label of the leaf may be performed in the state
abbrev pub HoldsAt : List Label → State → ℕ → Type 0
HoldsAt labels s leaf = MatchOption (slice_get labels leaf) (Unit {0}) (Holds s)

-- the state that the leaf leaves
abbrev pub after_leaf : List Label → State → ℕ → State
after_leaf labels s leaf = after_label (slice_get labels leaf)
  where
    after_label : Option Label → State
    after_label None = s
    after_label (Some label) = after s label

-- the state that the leaves leave, one after another
abbrev pub replay : List Label → State → List ℕ → State
replay labels s [] = s
replay labels s (leaf ∷ t) = replay labels (after_leaf labels s leaf) t

-- each label holds when its turn comes
abbrev pub Runs : List Label → State → List ℕ → Type 0
Runs labels s [] = Unit {0}
Runs labels s (leaf ∷ t) = HoldsAt labels s leaf × Runs labels (after_leaf labels s leaf) t
