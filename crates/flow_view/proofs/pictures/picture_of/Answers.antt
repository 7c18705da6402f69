use Rattle.std.proofs.Common.{◌≡◌, ◌+◌, ◌*◌, sym, ap, ◌∙◌, subst, List}
use Rattle.flow_model.specs.Lists.{Each, AreDistinct}
use Rattle.std.specs.List.{filter_map}
use Rattle.flow_model.specs.Lists.{numbers_from}
use Rattle.flow_model.proofs.MadeLists.{distinct-numbers_from}
use Rattle.flow_model.specs.Process.{Process, leaves}
use Rattle.flow_goal.specs.Labelled.{Labelled}
use Rattle.flow_model.specs.Ready.{InSequence}
use Rattle.flow_view.specs.declared.shape.Shape.{Shape}
use Rattle.flow_view.specs.Overlap.{ShapeLiesIn, canvas_place, DoNotOverlap, EndsLeftOf}
use Rattle.flow_view.specs.Shapes.{canvas, boxed_leaf}
use Rattle.flow_view.specs.Sketch.{sketch_of, process_in}
use Rattle.flow_view.proofs.Rooms.{room_on_canvas}
use Rattle.flow_view.proofs.Within.{on_canvas}
use Rattle.flow_view.proofs.Clear.{clear}
use Rattle.flow_view.proofs.InTurn.{boxes_are, in_turn}
use Rattle.flow_view.proofs.pictures.picture_of.Goals as goal

pub returns-clause-within : goal.returns-clause-within
returns-clause-within c =
    let a = sketch_of c.args.scene.now in
    subst (Each (ShapeLiesIn (canvas_place (c.size-size.result.width + 48) (2 * (c.size-size.result.half + 24))))) (sym c.in-Ok.ensures)
    (on_canvas a (c.size-size.result.width + 48) (2 * (c.size-size.result.half + 24)) (ap (λ n. n + 48) c.size-size.ensures.width_is) (ap (λ n. 2 * (n + 24)) c.size-size.ensures.half_is))

pub returns-clause-clear : goal.returns-clause-clear
returns-clause-clear c =
    let a = sketch_of c.args.scene.now in
    subst DoNotOverlap (sym c.in-Ok.ensures) (clear a (canvas a) (room_on_canvas a))

pub returns-clause-boxes : goal.returns-clause-boxes
returns-clause-boxes c =
    let a = sketch_of c.args.scene.now in
    ap (λ (xs : List Shape). filter_map boxed_leaf xs) c.in-Ok.ensures ∙ boxes_are a (canvas a) ∙ ap leaves c.requires.goal

pub returns-clause-in_turn : goal.returns-clause-in_turn
returns-clause-in_turn c = λ x y h.
    let a = sketch_of c.args.scene.now in
    let numbered : leaves c.args.workflow.now.tree.process ≡ numbers_from 0 c.leaves-leaves.result =
    subst (λ (t : Labelled). leaves t.process ≡ numbers_from 0 c.leaves-leaves.result) c.tree-tree.ensures.tree c.leaves-leaves.ensures.numbered in
    let distinct : AreDistinct (leaves (process_in a)) =
    subst AreDistinct (sym (ap leaves c.requires.goal ∙ numbered)) (distinct-numbers_from 0 c.leaves-leaves.result) in
    subst (λ (xs : List Shape). EndsLeftOf xs x y) (sym c.in-Ok.ensures)
    (in_turn a (canvas a) (room_on_canvas a) distinct x y (subst (λ (q : Process). InSequence q x y) (sym c.requires.goal) h))
