-- How far an option is done.
use Rattle.std.specs.Prelude.{◌≡◌, ◌↔◌, ℕ, IsTrue, List, Option, Some, None}
use Rattle.leaf_rows.specs.Leaves.{has_leaf}
use Rattle.flow_model.specs.Lists.{◌∈◌}
use Rattle.flow_model.specs.declared.labels.Label.{Label}
use Rattle.flow_model.specs.Facts.{State, state_with, after, replay}
use Rattle.flow_model.specs.Schema.{Schema, start_of}
use Rattle.flow_stages.specs.declared.stage.Stage.{Stage}

-- it is the stage once just these leaves are done, one after another
pub record IsAfter (w : Schema) (list : List ℕ) (stage : Stage) : Type 0 where
  pub done : (n : ℕ) → IsTrue (has_leaf stage.done n) ↔ (n ∈ list)
  pub held : (fact : ℕ) → state_with stage.held.items fact ≡ replay w.labels (start_of w) list fact

-- the state that a label leaves, if there is one
abbrev pub state_after : Option Label → State → State
state_after None s = s
state_after (Some label) s = after s label
