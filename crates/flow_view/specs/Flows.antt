-- The sub-workflows of the code, without pointers.
use Rattle.std.specs.Prelude.{ℕ, List, map, Option, None, Some}
use Rattle.std.proofs.Common.{Bor}
use Rattle.flow_form.specs.declared.form.Form.{Form}
use Rattle.flow_form.specs.Form.{Shape, shape_of}
use Rattle.flow_view.specs.declared.flows.Flows.{Flows}
use Rattle.flow_view.specs.declared.labels.Labels.{Labels}
use Rattle.flow_view.specs.Drawn.{Sources}

abbrev pub names_in : Flows → List (List ℕ)
names_in flows = map (λ (name : Bor (List ℕ)). name.now) flows.names.items

abbrev pub forms_shapes : List (Bor Form) → List Shape
forms_shapes forms = map (λ (form : Bor Form). shape_of form.now) forms

abbrev pub goals_in : Flows → List Shape
goals_in flows = forms_shapes flows.goals.items

abbrev pub sources_of : Flows → Labels → Sources
sources_of flows labels = record { names = names_in flows; bodies = goals_in flows; boxes = labels.boxes.items; captions = labels.captions.items }

abbrev pub form_shape : Option (Bor Form) → Option Shape
form_shape None = None
form_shape (Some f) = Some (shape_of f.now)
