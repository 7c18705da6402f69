-- Four small workflows, with options and histories of theirs.
use Rattle.std.specs.Prelude.{List, [], ◌∷◌}
use Rattle.flow_model.specs.declared.labels.Label.TheVariants.{Event}
use Rattle.flow_model.specs.declared.labels.Note.TheVariants as note
use Rattle.flow_model.specs.declared.history.Entry.{Entry}
use Rattle.flow_model.specs.declared.history.Step.TheVariants.{Took, Done}
use Rattle.flow_model.specs.Process.{Task, Parallel, Sequence, Isolated, Choice}
use Rattle.flow_model.specs.Constraint.{Order, Or}
use Rattle.flow_model.specs.Schema.{Schema}
use Rattle.flow_model.specs.Resolution.{ChoiceOption}

-- Two tasks that must stand in one order or the other

-- a | b, with a before b or b before a; the events a, b are 0, 1
abbrev pub either_way : Schema
either_way = record {
  goal = Parallel (Task 0) (Task 1);
  labels = Event 0 ∷ Event 1 ∷ [];
  rules = Or (Order (0 ∷ 1 ∷ [])) (Order (1 ∷ 0 ∷ [])) ∷ [];
  facts = [];
  notes = note.Done ∷ note.Done ∷ [];
}

-- a claim on leaf 0 is out
abbrev pub one_out : List Entry
one_out = record { by = 0; step = Took 1 0 } ∷ []

-- One task, and then two beside one another

-- a * (b | c); the events a, b, c are 0, 1, 2
abbrev pub plain : Schema
plain = record {
  goal = Sequence (Task 0) (Parallel (Task 1) (Task 2));
  labels = Event 0 ∷ Event 1 ∷ Event 2 ∷ [];
  rules = [];
  facts = [];
  notes = note.Done ∷ note.Done ∷ note.Done ∷ [];
}

-- a is done
abbrev pub a_done : List Entry
a_done = record { by = 0; step = Took 1 0 } ∷ record { by = 0; step = Done 1 } ∷ []

-- then a claim on b is given
abbrev pub b_out : List Entry
b_out = record { by = 0; step = Took 1 0 } ∷ record { by = 0; step = Done 1 } ∷ record { by = 0; step = Took 2 1 } ∷ []

-- and one on c, so that both are out together
abbrev pub both_out : List Entry
both_out = record { by = 0; step = Took 1 0 } ∷ record { by = 0; step = Done 1 }
    ∷ record { by = 0; step = Took 2 1 } ∷ record { by = 1; step = Took 3 2 } ∷ []

-- A task that two rules put into an isolated part

-- iso(a * b) | c, with a before c and c before b; the events a, b, c are 0, 1, 2
abbrev pub broken_into : Schema
broken_into = record {
  goal = Parallel (Isolated (Sequence (Task 0) (Task 1))) (Task 2);
  labels = Event 0 ∷ Event 1 ∷ Event 2 ∷ [];
  rules = Order (0 ∷ 2 ∷ []) ∷ Order (2 ∷ 1 ∷ []) ∷ [];
  facts = [];
  notes = note.Done ∷ note.Done ∷ note.Done ∷ [];
}

-- the goal itself, with the two pairs
abbrev pub only_option : ChoiceOption
only_option = record { resolution = broken_into.goal; order = (0, 2) ∷ (2, 1) ∷ [] }

-- The knot: each of two pairs of tasks in either order, and two rules across the pairs

-- (a * c + c * a) | (b * d + d * b), with c before b and d before a; the events a, b, c, d are 0, 1, 2, 3
abbrev pub knot : Schema
knot = record {
  goal = Parallel (Choice (Sequence (Task 0) (Task 1)) (Sequence (Task 2) (Task 3)))
      (Choice (Sequence (Task 4) (Task 5)) (Sequence (Task 6) (Task 7)));
  labels = Event 0 ∷ Event 2 ∷ Event 2 ∷ Event 0 ∷ Event 1 ∷ Event 3 ∷ Event 3 ∷ Event 1 ∷ [];
  rules = Order (2 ∷ 1 ∷ []) ∷ Order (3 ∷ 0 ∷ []) ∷ [];
  facts = [];
  notes = note.Done ∷ note.Done ∷ note.Done ∷ note.Done ∷ [];
}

-- (a * c) | (b * d), and the pairs of its two rules
abbrev pub tied : ChoiceOption
tied = record {
  resolution = Parallel (Sequence (Task 0) (Task 1)) (Sequence (Task 4) (Task 5));
  order = (1, 4) ∷ (5, 0) ∷ [];
}

-- (c * a) | (d * b), and the pairs of its two rules
abbrev pub loose : ChoiceOption
loose = record {
  resolution = Parallel (Sequence (Task 2) (Task 3)) (Sequence (Task 6) (Task 7));
  order = (2, 7) ∷ (6, 3) ∷ [];
}
