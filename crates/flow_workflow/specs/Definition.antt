-- A workflow with its sub-workflows in place: what it is made of, and what it means.
use Rattle.std.specs.Prelude.{◌≡◌, ◌<◌, ◌≤◌, ◌^◌, ℕ, List, length}
use Rattle.std.proofs.Common.{refl}
use Rattle.std.specs.Coded.{Coded, code_by, coded×, coded_ℕ, coded_list}
use Rattle.flow_model.specs.declared.limits.TheConstants.{MOST_LEAVES}
use Rattle.flow_model.specs.declared.labels.Note.{Note}
use Rattle.flow_model.specs.contracts.labels.Note as note
use Rattle.flow_model.specs.Lists.{Each, AreDistinct}
use Rattle.flow_model.specs.Constraint.{Constraint}
use Rattle.flow_model.specs.Schema.{Schema}
use Rattle.flow_model.specs.Stored.{constraint_code}
use Rattle.flow_facts.specs.Atom.{Atom, atom_code}
use Rattle.flow_goal.specs.Labelled.{Labelled, labelled_code}
use Rattle.flow_goal.specs.Repeats.{HoldsNoneTwice}
use Rattle.flow_workflow.specs.declared.rule.Rule.{Rule}
use Rattle.flow_workflow.specs.Rule.{rules_of}
use Rattle.flow_workflow.specs.Numbers.{IsKnown}

pub record Definition : Type 0 where
  -- the names of the events, by their numbers
  pub events : List (List ℕ)
  -- what is noted of each event
  pub notes : List Note
  -- the facts, by their numbers
  pub facts : List Atom
  -- the numbers of the facts that hold at the start
  pub held : List ℕ
  pub tree : Labelled
  pub rules : List Constraint

abbrev pub definition_code : Coded Definition
definition_code =
    code_by (List (List ℕ) × (List Note × (List Atom × (List ℕ × (Labelled × List Constraint)))))
    (coded× (coded_list (coded_list coded_ℕ)) (coded× (coded_list note.the_row.coded) (coded× (coded_list atom_code)
    (coded× (coded_list coded_ℕ) (coded× labelled_code (coded_list constraint_code))))))
    (λ w. (w.events, (w.notes, (w.facts, (w.held, (w.tree, w.rules))))))
    (λ p. record { events = p.0; notes = p.1.0; facts = p.1.1.0; held = p.1.1.1.0; tree = p.1.1.1.1.0; rules = p.1.1.1.1.1 })
    (λ _. refl)

-- that of these parts
abbrev pub definition : List (List ℕ) → List Note → List Atom → List ℕ → Labelled → List Rule → Definition
definition events notes facts held tree rules =
    record { events = events; notes = notes; facts = facts; held = held; tree = tree; rules = rules_of rules }

-- what it means: the workflow by which executions are judged
abbrev pub schema_of : Definition → Schema
schema_of w = record { goal = w.tree.process; labels = w.tree.labels; rules = w.rules; facts = w.held; notes = w.notes }

-- what every workflow keeps
pub record IsWorkflow (w : Definition) : Type 0 where
  pub distinct : AreDistinct w.events
  pub few_events : length w.events < 2 ^ 31
  pub noted : length w.notes ≡ length w.events
  pub held : Each (λ f. f < length w.facts) w.held
  pub known : Each (IsKnown (length w.events) (length w.facts)) w.tree.labels
  -- no execution holds an event twice
  pub unique : HoldsNoneTwice w.tree
  pub small : length w.tree.labels ≤ MOST_LEAVES
