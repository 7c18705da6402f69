-- A constraint as it is written, with numbers in place of the names of events.
use Rattle.std.specs.Prelude.{ℕ, List, [], ◌∷◌, map}
use Rattle.flow_model.specs.Constraint as constraint
use Rattle.flow_model.specs.Constraint.{Constraint, all_of}
use Rattle.flow_form.specs.RuleForm.{RuleShape, RuleShapes, must, never, order, precedes, needs, negated, all, any, no_more, followed}
use Rattle.flow_workflow.specs.Rule.{any_of}
use Rattle.flow_workflow.specs.Numbers.{event_number}

abbrev mutual
  pub constraint_of : List (List ℕ) → RuleShape → Constraint
  constraint_of events (must n) = constraint.Must (event_number events n)
  constraint_of events (never n) = constraint.Never (event_number events n)
  constraint_of events (order ns) = constraint.Order (map (event_number events) ns)
  constraint_of events (precedes a b) = any_of (constraint.Never (event_number events a) ∷ constraint.Never (event_number events b)
      ∷ constraint.Order (event_number events a ∷ event_number events b ∷ []) ∷ [])
  constraint_of events (needs a b) = any_of (constraint.Never (event_number events a) ∷ constraint.Must (event_number events b) ∷ [])
  constraint_of events (negated r) = constraint.Not (constraint_of events r)
  constraint_of events (all rs) = all_of (constraints_of events rs)
  constraint_of events (any rs) = any_of (constraints_of events rs)

  pub constraints_of : List (List ℕ) → RuleShapes → List Constraint
  constraints_of events no_more = []
  constraints_of events (followed r rs) = constraint_of events r ∷ constraints_of events rs
