-- A set of facts in the course of time: what held at the start, and what was performed since.
use Rattle.std.specs.Prelude.{ℕ, List, [], ◌∷◌}
use Rattle.std.proofs.Common.{refl}
use Rattle.std.specs.Coded.{Coded, code_by, coded×, coded_ℕ, coded_list}
use Rattle.flow_model.specs.declared.labels.Label.{Label}
use Rattle.flow_model.specs.contracts.labels.Label as label
use Rattle.flow_model.specs.Facts.{State, state_with, after}

pub record Course : Type 0 where
  -- the facts that held at the start
  pub held : List ℕ
  -- how many facts there may be
  pub count : ℕ
  -- what was performed since, in order
  pub labels : List Label
  -- how many labels there may be
  pub room : ℕ

abbrev pub course_code : Coded Course
course_code = code_by (List ℕ × (ℕ × (List Label × ℕ)))
    (coded× (coded_list coded_ℕ) (coded× coded_ℕ (coded× (coded_list label.the_row.coded) coded_ℕ)))
    (λ c. (c.held, (c.count, (c.labels, c.room)))) (λ p. record { held = p.0; count = p.1.0; labels = p.1.1.0; room = p.1.1.1 }) (λ _. refl)

-- nothing was performed yet
abbrev pub course_from : List ℕ → ℕ → ℕ → Course
course_from held count room = record { held = held; count = count; labels = []; room = room }

-- the state that the labels leave, one after another
abbrev pub after_all : State → List Label → State
after_all s [] = s
after_all s (label ∷ labels) = after_all (after s label) labels

-- the state now
abbrev pub state_of_world : Course → State
state_of_world c = after_all (state_with c.held) c.labels
