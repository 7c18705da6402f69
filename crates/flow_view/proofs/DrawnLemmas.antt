-- What is drawn of a goal draws that goal.
use Rattle.std.proofs.Common.{◌≡◌, ℕ, List, Option, Some, None, refl, ap, ◌∙◌}
use Rattle.flow_model.specs.declared.operators.Operator.TheVariants as operator
use Rattle.flow_model.specs.Process.{Process, Empty, Task, Sequence, Parallel, Choice, Isolated}
use Rattle.flow_form.specs.Form.{Shape}
use Rattle.flow_view.specs.declared.scene.Sides.{Sides}
use Rattle.flow_view.specs.declared.scene.Sides.TheVariants.{Beside, Either}
use Rattle.flow_view.specs.Drawn.{Sources, Written, called, opened, within_frame, under, fork, drawn_by, inside, drawn, left_of, right_of, body_of}
use Rattle.flow_view.specs.Sketch.{Sketch, both, process_in}

under_process : (captions : List (List ℕ)) (k : Option ℕ) (a : Sketch) → process_in (under captions k a) ≡ process_in a
under_process captions None a = refl
under_process captions (Some k) a = refl

fork_sides : (within : Option Sides) (sides : Sides) → (fork within sides).sides ≡ sides
fork_sides None sides = refl
fork_sides (Some Beside) Beside = refl
fork_sides (Some Beside) Either = refl
fork_sides (Some Either) Beside = refl
fork_sides (Some Either) Either = refl

drawn_so : (s : Sources) (q : Process) → ((within : Option Sides) (w : Written) → process_in (inside s q within w) ≡ q) →
    (within : Option Sides) (w : Written) → process_in (drawn_by s (inside s q) within w) ≡ q
drawn_so s q h within w =
    under_process s.captions (called s.names w) (inside s q (within_frame (called s.names w) within) (opened s.names s.bodies w))
    ∙ h (within_frame (called s.names w) within) (opened s.names s.bodies w)

together : (join : Process → Process → Process) (p p2 q q2 : Process) → p ≡ p2 → q ≡ q2 → join p q ≡ join p2 q2
together join p p2 q q2 e f = λ i. join (e i) (f i)

inside_process : (s : Sources) (q : Process) (within : Option Sides) (w : Written) → process_in (inside s q within w) ≡ q
inside_process s Empty within w = refl
inside_process s (Task n) within w = refl
inside_process s (Sequence a b) within w =
    together Sequence (process_in (drawn_by s (inside s a) None (left_of operator.Serial w))) a (process_in (drawn_by s (inside s b) None (right_of operator.Serial w))) b
    (drawn_so s a (inside_process s a) None (left_of operator.Serial w)) (drawn_so s b (inside_process s b) None (right_of operator.Serial w))
inside_process s (Parallel a b) within w =
    let x = process_in (drawn_by s (inside s a) (Some Beside) (left_of operator.Beside w)) in
    let y = process_in (drawn_by s (inside s b) (Some Beside) (right_of operator.Beside w)) in
    ap (λ sides. both sides x y) (fork_sides within Beside)
    ∙ together Parallel x a y b (drawn_so s a (inside_process s a) (Some Beside) (left_of operator.Beside w)) (drawn_so s b (inside_process s b) (Some Beside) (right_of operator.Beside w))
inside_process s (Choice a b) within w =
    let x = process_in (drawn_by s (inside s a) (Some Either) (left_of operator.Either w)) in
    let y = process_in (drawn_by s (inside s b) (Some Either) (right_of operator.Either w)) in
    ap (λ sides. both sides x y) (fork_sides within Either)
    ∙ together Choice x a y b (drawn_so s a (inside_process s a) (Some Either) (left_of operator.Either w)) (drawn_so s b (inside_process s b) (Some Either) (right_of operator.Either w))
inside_process s (Isolated a) within w = ap Isolated (drawn_so s a (inside_process s a) None (body_of w))

pub drawn_process : (s : Sources) (q : Process) (within : Option Sides) (w : Written) → process_in (drawn s q within w) ≡ q
drawn_process s q within w = drawn_so s q (inside_process s q) within w

pub same_sources : (names names2 : List (List ℕ)) (bodies bodies2 : List Shape) (boxes captions : List (List ℕ)) → names ≡ names2 → bodies ≡ bodies2 →
    let one : Sources = record { names = names; bodies = bodies; boxes = boxes; captions = captions } in
    let other : Sources = record { names = names2; bodies = bodies2; boxes = boxes; captions = captions } in one ≡ other
same_sources names names2 bodies bodies2 boxes captions e f = λ i. record { names = e i; bodies = f i; boxes = boxes; captions = captions }
