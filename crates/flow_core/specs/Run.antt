-- A run as its callers see it: the workflow, the limit of steps, and the history so far.
use Rattle.std.specs.Prelude.{◌≡◌, ◌<◌, ℕ, false, List, [], ◌∷◌, ◌++◌, length}
use Rattle.std.proofs.Common.{refl}
use Rattle.std.specs.Coded.{Coded, code_by, coded×, coded_ℕ}
use Rattle.flow_model.specs.declared.history.Entry.{Entry}
use Rattle.flow_model.specs.declared.history.Step.{Step}
use Rattle.flow_model.specs.Schema.{Schema}
use Rattle.flow_model.specs.Stored.{history_code}
use Rattle.flow_model.specs.Run.{RunState, state_of}
use Rattle.flow_workflow.specs.Definition.{Definition, definition_code, schema_of}

pub record Run : Type 0 where
  pub definition : Definition
  -- the greatest length of the history
  pub limit : ℕ
  pub history : List Entry

abbrev pub run_code : Coded Run
run_code = code_by (Definition × (ℕ × List Entry)) (coded× definition_code (coded× coded_ℕ history_code))
    (λ r. (r.definition, (r.limit, r.history))) (λ t. record { definition = t.0; limit = t.1.0; history = t.1.1 }) (λ _. refl)

-- the workflow by which the history is judged
abbrev pub schema : Run → Schema
schema r = schema_of r.definition

-- the state that the history leaves
abbrev pub now : Run → RunState
now r = state_of (schema r) r.history

-- the history has one entry more
abbrev pub with_entry : Run → ℕ → Step → Run
with_entry r by step = record r { history = r.history ++ record { by = by; step = step } ∷ [] }

-- the run is not over
abbrev pub IsUncommitted : Run → Type 0
IsUncommitted r = (now r).committed ≡ false

-- there is room for one entry more
abbrev pub HasEntryLeft : Run → Type 0
HasEntryLeft r = length r.history < r.limit
