-- What the fields of a world keep.
use Rattle.std.specs.Prelude.{◌≡◌, ◌≤◌, ℕ, Bool, List, [], ◌∷◌, length, map}
use Rattle.std.specs.Vec.{vec_capacity}
use Rattle.flow_model.specs.declared.labels.Label.{Label}
use Rattle.flow_model.specs.Facts.{State, state_with, after}
use Rattle.flow_facts.specs.Held.{is_held}
use Rattle.flow_facts.specs.declared.update.Update.{Update}
use Rattle.flow_facts.specs.declared.world.World.TheInside.{Inside}
use Rattle.flow_facts.specs.Changes.{HasFactBelow, changes}
use Rattle.flow_facts.specs.Course.{Course, after_all}

-- the labels of a trail
abbrev pub labels_of : List Update → List Label
labels_of trail = map (λ (u : Update). u.label) trail

-- each update of the trail has a fact below the count, and tells whether it changed the state before it
abbrev pub IsTrailFrom : ℕ → State → List Update → Type 0
IsTrailFrom count s [] = Unit {0}
IsTrailFrom count s (u ∷ trail) = HasFactBelow count u.label × (u.changed ≡ changes s u.label) × IsTrailFrom count (after s u.label) trail

-- the facts are the state that the trail leaves
pub record IsKept (held : List ℕ) (facts : List Bool) (trail : List Update) : Type 0 where
  pub updates : IsTrailFrom (length facts) (state_with held) trail
  pub now : (n : ℕ) → is_held facts n ≡ after_all (state_with held) (labels_of trail) n

pub record IsWorld (w : Inside) : Type 0 where
  pub kept : IsKept w.held.items w.database w.trail.items
  pub room : w.room ≤ vec_capacity w.trail

abbrev pub course_of : Inside → Course
course_of w = record { held = w.held.items; count = length w.database; labels = labels_of w.trail.items; room = w.room }
