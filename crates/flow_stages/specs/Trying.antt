-- How far takers were tried, event by event, users by rising number.
use Rattle.std.specs.Prelude.{◌≡◌, ◌<◌, ◌≤◌, ◌⊎◌, ℕ, List, [], ◌∷◌, length, get_or}
use Rattle.flow_model.specs.Duties.{Duties, HasRole}
use Rattle.flow_model.specs.Lists.{◌∈◌}
use Rattle.flow_stages.specs.declared.wanted.Wanted.{Wanted}
use Rattle.flow_stages.specs.Fitting.{GoesWith}

-- the users come later than the takers, in the order in which users are tried; or they are these, and the rest is so
abbrev pub ComesAt : List (ℕ × ℕ) → Type 0 → (ℕ → ℕ) → Type 0
ComesAt [] Rest to = Rest
ComesAt (t ∷ taken) Rest to = (t.1 < to t.0) ⊎ ((to t.0 ≡ t.1) × ComesAt taken Rest to)

-- they are not tried yet, where users of the next event are tried from that number on
abbrev pub IsToCome : List ℕ → List (ℕ × ℕ) → ℕ → (ℕ → ℕ) → Type 0
IsToCome events taken from to = ComesAt taken (from ≤ to (get_or events (length taken) 0)) to

-- the takers are those of the first events
abbrev pub AreOfFirst : List ℕ → List (ℕ × ℕ) → Type 0
AreOfFirst events [] = Unit {0}
AreOfFirst [] (t ∷ taken) = ⊥
AreOfFirst (e ∷ events) (t ∷ taken) = (t.0 ≡ e) × AreOfFirst events taken

-- the takers may have their events, each beside each
pub record AreTogether (d : Duties) (wanted : Wanted) (taken : List (ℕ × ℕ)) : Type 0 where
  pub role : (t : ℕ × ℕ) → t ∈ taken → HasRole d t.1 t.0
  pub beside : (t u : ℕ × ℕ) → t ∈ taken → u ∈ taken → GoesWith d wanted t.0 t.1 u.0 u.1
