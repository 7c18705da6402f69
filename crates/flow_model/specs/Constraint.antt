-- Constraints on events (Davulcu, Kifer, Ramakrishnan and Ramakrishnan 1998).
use Rattle.std.specs.Prelude.{ℕ, List, [], ◌∷◌, ◌⊎◌}
use Rattle.flow_model.specs.Lists.{◌∈◌, StandsBefore}

pub data Constraint : Type 0 where
  -- it is met by every execution
  Always : Constraint
  -- it is met by none
  Impossible : Constraint
  -- the event happens
  Must : ℕ → Constraint
  -- the event does not happen
  Never : ℕ → Constraint
  -- the events all happen, each before the next
  Order : List ℕ → Constraint
  Not : Constraint → Constraint
  And : Constraint → Constraint → Constraint
  Or : Constraint → Constraint → Constraint

-- the events all happen, each before the next
abbrev pub HappenInOrder : List ℕ → List ℕ → Type 0
HappenInOrder [] events = Unit {0}
HappenInOrder (a ∷ []) events = a ∈ events
HappenInOrder (a ∷ b ∷ more) events = StandsBefore a b events × HappenInOrder (b ∷ more) events

-- the constraint is true of the whole list of an execution's events
abbrev pub Meets : Constraint → List ℕ → Type 0
Meets Always events = Unit {0}
Meets Impossible events = ⊥
Meets (Must e) events = e ∈ events
Meets (Never e) events = ¬ (e ∈ events)
Meets (Order es) events = HappenInOrder es events
Meets (Not c) events = ¬ (Meets c events)
Meets (And c d) events = Meets c events × Meets d events
Meets (Or c d) events = Meets c events ⊎ Meets d events

-- the constraint, and those of the list joined to it from the left
abbrev pub conjoined : Constraint → List Constraint → Constraint
conjoined c [] = c
conjoined c (d ∷ ds) = conjoined (And c d) ds

-- one constraint for a list of them
abbrev pub all_of : List Constraint → Constraint
all_of cs = conjoined Always cs

-- if a happens and b happens, then a before b
abbrev pub precedes : ℕ → ℕ → Constraint
precedes a b = Or (Or (Never a) (Never b)) (Order (a ∷ b ∷ []))

-- if a happens, then b happens
abbrev pub needs : ℕ → ℕ → Constraint
needs a b = Or (Never a) (Must b)
