-- What is drawn of a workflow, put together.
use Rattle.std.proofs.Common.{◌≡◌, ℕ, List, [], ◌∷◌, map, refl, ap, subst}
use Rattle.flow_form.specs.Script.{Said}
use Rattle.flow_workflow.specs.Definition.{Definition}
use Rattle.flow_view.specs.declared.labels.Labels.{Labels}
use Rattle.flow_view.specs.declared.mark.Mark.{Mark}
use Rattle.flow_view.specs.declared.refusal.ViewRefusal.{ViewRefusal}
use Rattle.flow_view.specs.declared.refusal.ViewRefusal.TheVariants as view
use Rattle.flow_view.specs.Drawn.{drawing}
use Rattle.flow_view.specs.Sizes.{IsRefusal}
use Rattle.flow_view.specs.Sketch.{Sketch}
use Rattle.flow_draw.specs.declared.sheet.Sheet.{Sheet}
use Rattle.flow_draw.specs.Notes.{note_of}
use Rattle.flow_desk.specs.Viewing.{view_stop}
use Rattle.flow_desk.specs.declared.stop.DeskStop.{DeskStop}
use Rattle.flow_desk.specs.declared.stop.DeskStop.TheVariants.{Workflow, RunTooLong, Line, Label, Illegal, TooLarge, NoMemory}
use Rattle.flow_desk.specs.Desk.{AreLabels, IsPrinted, IsDepicted, IsNotDepicted, IsNotPlaced}

pub map-map : {A B C : Type 0} (f : B → C) (g : A → B) (xs : List A) → map (λ x. f (g x)) xs ≡ map f (map g xs)
map-map f g [] = refl
map-map f g (x ∷ xs) = ap (λ l. f (g x) ∷ l) (map-map f g xs)

pub not_placed : (s : Said) (labels : Labels) (w : Definition) (why : ViewRefusal) → IsRefusal (drawing s labels w.tree.process) why → IsNotPlaced s labels w (view_stop why)
not_placed s labels w view.TooLarge large = large
not_placed s labels w view.NoMemory starved = tt

module _ (s : Said) (w : Definition) (texts : List (List ℕ)) (labels : Labels) (are : AreLabels s texts labels) where
  pub not_depicted : (stop : DeskStop) → IsNotPlaced s labels w stop → IsNotDepicted s w texts stop
  not_depicted (Workflow telling) why = why
  not_depicted RunTooLong why = why
  not_depicted (Line line) why = why
  not_depicted (Label line) why = why
  not_depicted (Illegal line) why = why
  not_depicted TooLarge large = (labels, are, large)
  not_depicted NoMemory starved = tt

  pub depicted : (sheet : Sheet) (marks : List Mark) (text : List ℕ) (sketch : Sketch) (notes : List (List ℕ)) → sketch ≡ drawing s labels w.tree.process →
      notes ≡ map note_of s.rules → IsPrinted sheet sketch labels w marks notes text → IsDepicted sheet s w texts marks text
  depicted sheet marks text sketch notes drawn noted printed = record {
    labels = labels;
    labels_are = are;
    printed = subst (λ (k : Sketch). IsPrinted sheet k labels w marks (map note_of s.rules) text) drawn
        (subst (λ (n : List (List ℕ)). IsPrinted sheet sketch labels w marks n text) noted printed);
  }
