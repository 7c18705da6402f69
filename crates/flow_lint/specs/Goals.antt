-- What stands in written goals and changes nothing.
use Rattle.std.specs.Prelude.{ℕ, Bool, true, false, not, List, [], ◌∷◌, ◌++◌, map}
use Rattle.std.proofs.Common.{Bor}
use Rattle.std.specs.List.{flat_map, list_any}
use Rattle.std.specs.Str.{bytes_eq}
use Rattle.flow_form.specs.declared.form.Form.{Form}
use Rattle.flow_form.specs.Form.{shape_of, Shape, Shapes, nop, named, iso, serial, beside, either, no_more, followed}
use Rattle.flow_form.specs.Script.{Said, Declared, fact, event, flow}
use Rattle.flow_form.specs.Names.{goals_of, names_in}

-- it declares a sub-workflow that none of the goals names
abbrev pub is_unused : List Shape → Declared → Bool
is_unused goals (fact a) = false
is_unused goals (event name note) = false
is_unused goals (flow name goal) = not (list_any (bytes_eq name) (flat_map names_in goals))

-- of each declaration, whether it is of a sub-workflow that no goal of the text names
abbrev pub unused_flows : Said → List Bool
unused_flows s = map (is_unused (goals_of s)) s.decls

abbrev pub shapes_of : List (Bor Form) → List Shape
shapes_of goals = map (λ (f : Bor Form). shape_of f.now) goals

-- of each nop of a goal, whether it is a part of goals that are done one after another or beside one another; of the goal
-- itself that is given
abbrev mutual
  pub idle_nops : Bool → Shape → List Bool
  idle_nops part nop = part ∷ []
  idle_nops part (iso s) = idle_nops false s
  idle_nops part (serial ss) = idle_nops_in true ss
  idle_nops part (beside ss) = idle_nops_in true ss
  idle_nops part (either ss) = idle_nops_in false ss
  idle_nops part _ = []

  pub idle_nops_in : Bool → Shapes → List Bool
  idle_nops_in part no_more = []
  idle_nops_in part (followed s ss) = idle_nops part s ++ idle_nops_in part ss

-- it is an event, a test or a change of a fact, nothing, or isolated itself
abbrev pub is_one : List (List ℕ) → Shape → Bool
is_one events (named n) = list_any (bytes_eq n) events
is_one events (serial ss) = false
is_one events (beside ss) = false
is_one events (either ss) = false
is_one events _ = true

-- of each isolation in a goal, whether it isolates one such thing
abbrev mutual
  pub lone_isos : List (List ℕ) → Shape → List Bool
  lone_isos events (iso s) = is_one events s ∷ lone_isos events s
  lone_isos events (serial ss) = lone_isos_in events ss
  lone_isos events (beside ss) = lone_isos_in events ss
  lone_isos events (either ss) = lone_isos_in events ss
  lone_isos events _ = []

  pub lone_isos_in : List (List ℕ) → Shapes → List Bool
  lone_isos_in events no_more = []
  lone_isos_in events (followed s ss) = lone_isos events s ++ lone_isos_in events ss

-- of each nop of a text, and of each isolation
abbrev pub nops_of : Said → List Bool
nops_of s = flat_map (idle_nops false) (goals_of s)

abbrev pub isos_of : List (List ℕ) → Said → List Bool
isos_of events s = flat_map (lone_isos events) (goals_of s)
