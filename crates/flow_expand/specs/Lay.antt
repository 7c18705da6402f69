-- Sub-workflows that stand in a layout.
use Rattle.std.specs.Prelude.{◌≡◌, ℕ, List, [], ◌∷◌, Option, Some, None, MatchOption, fold, slice_get}
use Rattle.flow_model.specs.Lists.{◌∈◌}
use Rattle.flow_model.specs.declared.operators.Operator.{Operator}
use Rattle.flow_model.specs.declared.operators.Operator.TheVariants as how
use Rattle.flow_form.specs.Form.{Shape, Shapes, serial, beside, either, shapes}
use Rattle.flow_form.specs.Script.{Declared}
use Rattle.flow_form.specs.Names.{event_names}
use Rattle.flow_expand.specs.declared.directory.Directory.{Directory}
use Rattle.flow_expand.specs.declared.layout.Piece.{Piece}
use Rattle.flow_expand.specs.declared.layout.Root.{Root}
use Rattle.flow_expand.specs.declared.lay.Stage.{Stage}
use Rattle.flow_expand.specs.declared.lay.Stage.TheVariants as stage
use Rattle.flow_expand.specs.Expansion.{Expansion, Becomes, AllBecome}
use Rattle.flow_expand.specs.Layout.{IsRoot, paired}
use Rattle.flow_expand.specs.Steps.{flows_of}
use Rattle.flow_expand.specs.Directory.{IsDirectory, decls_of, found_in}

-- what is written became a goal, and the root is that of it
pub record Goes (decls : List Declared) (layout : List Piece) (s : Shape) (root : Root) : Type 0 where
  pub expansion : Expansion
  pub becomes : Becomes decls s expansion
  pub is_root : IsRoot layout (event_names decls) expansion root

abbrev pub list_shape : Operator → Shapes → Shape
list_shape how.Serial ss = serial ss
list_shape how.Beside ss = beside ss
list_shape how.Either ss = either ss

-- each of a list became a goal, and the root is that of all, joined from the left
pub record ListGoes (decls : List Declared) (layout : List Piece) (by : Operator) (ss : List Shape) (root : Root) : Type 0 where
  pub first : Expansion
  pub more : List Expansion
  pub become : AllBecome decls (shapes ss) (first ∷ more)
  pub is_root : IsRoot layout (event_names decls) (fold (paired by) first more) root

-- the members of a list so far
abbrev pub IsFront : List Declared → List Piece → Operator → List Shape → Option Root → Type 0
IsFront decls layout by ss None = ss ≡ []
IsFront decls layout by ss (Some root) = ListGoes decls layout by ss root

-- the sub-workflow of that number was laid
abbrev pub IsLaidAt : List Stage → ℕ → Type 0
IsLaidAt laid k = (root : Root) × (slice_get laid k ≡ Some (stage.Laid root))

-- each sub-workflow that was laid stands in the layout
pub record IsLaid (d : Directory) (laid : List Stage) (layout : List Piece) : Type 0 where
  pub directory : IsDirectory d
  pub flows : (k : ℕ) (root : Root) (n : List ℕ) (s : Shape) → slice_get laid k ≡ Some (stage.Laid root) →
      slice_get (flows_of (decls_of d)) k ≡ Some (n, s) → Goes (decls_of d) layout s root

-- the name is that of a sub-workflow that was laid, or else of an event
abbrev pub IsSettled : Directory → List Stage → List ℕ → Type 0
IsSettled d laid n = MatchOption (found_in d.flows n) (n ∈ d.events.now) (IsLaidAt laid)
