-- Labels of leaves as text.
use Rattle.std.specs.Prelude.{ℕ, ◌<◌, List, [], ◌++◌, length, Option, Some, None, All, slice_get, codes}
use Rattle.std.specs.Option.{unwrap_or}
use Rattle.flow_model.specs.declared.labels.Label.{Label}
use Rattle.flow_model.specs.declared.labels.Label.TheVariants.{Event, Test, Absent, Ins, Del}
use Rattle.flow_facts.specs.Atom.{Atom}
use Rattle.flow_facts.specs.Text.{fact_text}
use Rattle.flow_workflow.specs.Definition.{Definition}

-- the name of the event of that number
abbrev pub event_name : Definition → ℕ → List ℕ
event_name w e = unwrap_or (slice_get w.events e) []

-- the fact of that number
abbrev pub fact_at : Definition → ℕ → List ℕ
fact_at w f = text (slice_get w.facts f)
  where
    text : Option Atom → List ℕ
    text None = []
    text (Some a) = fact_text a

-- an event's name, or what is asked of a fact or done to it
abbrev pub label_text : Definition → Label → List ℕ
label_text w (Event e) = event_name w e
label_text w (Test f) = codes "?" ++ fact_at w f
label_text w (Absent f) = codes "!" ++ fact_at w f
label_text w (Ins f) = codes "ins " ++ fact_at w f
label_text w (Del f) = codes "del " ++ fact_at w f

-- the label of a leaf
abbrev pub leaf_text : Definition → ℕ → List ℕ
leaf_text w leaf = text (slice_get w.tree.labels leaf)
  where
    text : Option Label → List ℕ
    text None = []
    text (Some label) = label_text w label

-- the leaf is one of the workflow's
abbrev pub IsLeaf : Definition → ℕ → Type 0
IsLeaf w leaf = leaf < length w.tree.labels

-- each of them is one
abbrev pub AreLeaves : Definition → List ℕ → Type 0
AreLeaves w leaves = All (IsLeaf w) leaves
