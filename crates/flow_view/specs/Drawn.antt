-- What is drawn of a goal, with what is written beside it: sub-workflows that were put in are framed.
use Rattle.std.specs.Prelude.{ℕ, zero, suc, ◌-◌, true, false, List, [], ◌∷◌, ◌+◌, length, map, take, if◌then◌else◌, Option, Some, None, slice_get}
use Rattle.std.specs.List.{flat_map}
use Rattle.std.specs.Option.{unwrap_or, option_and_then}
use Rattle.std.specs.Str.{bytes_eq}
use Rattle.flow_model.specs.declared.operators.Operator.{Operator}
use Rattle.flow_model.specs.declared.operators.Operator.TheVariants as operator
use Rattle.flow_model.specs.Process.{Process, Empty, Task, Sequence, Parallel, Choice, Isolated}
use Rattle.flow_form.specs.Form.{Shape, named, iso, serial, beside, either, members}
use Rattle.flow_form.specs.Names.{flow_goal}
use Rattle.flow_form.specs.Script.{Declared, Said}
use Rattle.flow_view.specs.declared.labels.Labels.{Labels}
use Rattle.flow_view.specs.declared.scene.Fork.{Fork}
use Rattle.flow_view.specs.declared.scene.Frame.TheVariants.{Iso, Called}
use Rattle.flow_view.specs.declared.scene.Sides.{Sides}
use Rattle.flow_view.specs.declared.scene.Sides.TheVariants.{Beside, Either}
use Rattle.flow_view.specs.Sketch.{Sketch, gap, box, row, forked, framed}
use Rattle.flow_view.specs.Texts.{flow_names}

-- the number of the first of these names that is that one, where they are numbered from i
abbrev pub number_from : ℕ → List (List ℕ) → List ℕ → Option ℕ
number_from i [] n = None
number_from i (m ∷ ms) n = if bytes_eq m n then Some i else number_from (i + 1) ms n

-- the number of the sub-workflow that is named so
abbrev pub number_of : List (List ℕ) → List ℕ → Option ℕ
number_of names n = number_from 0 names n

-- what stands at the number of the name, if that names a sub-workflow, and else the name
abbrev pub named_goal : List (List ℕ) → List Shape → Shape → Shape
named_goal names goals (named n) = unwrap_or (option_and_then (λ k. slice_get goals k) (number_of names n)) (named n)
named_goal names goals s = s

-- so many times
abbrev pub many_times : ℕ → (Shape → Shape) → Shape → Shape
many_times zero f s = s
many_times (suc more) f s = f (many_times more f s)

-- the goals of sub-workflows, where one that is the bare name of another has the other's
abbrev pub bodies_of : List (List ℕ) → List Shape → List Shape
bodies_of names goals = map (λ s. many_times (length names) (named_goal names goals) s) goals

-- the sub-workflows by their numbers, and what is shown of leaves and of names
pub record Sources : Type 0 where
  pub names : List (List ℕ)
  pub bodies : List Shape
  pub boxes : List (List ℕ)
  pub captions : List (List ℕ)

abbrev pub sources : List Declared → Labels → Sources
sources decls labels = record {
  names = flow_names decls;
  bodies = bodies_of (flow_names decls) (flat_map flow_goal decls);
  boxes = labels.boxes.items;
  captions = labels.captions.items;
}

-- how many letters are shown at that number
abbrev pub letters : List (List ℕ) → ℕ → ℕ
letters texts n = length (unwrap_or (slice_get texts n) [])

-- what is written beside a goal
pub data Written : Type 0 where
  -- nothing that goes with it
  lost : Written
  whole : Shape → Written
  -- the first members of a list, which are two or more
  first : Operator → List Shape → Written

-- the sub-workflow whose name is written
abbrev pub called_in : List (List ℕ) → Shape → Option ℕ
called_in names (named n) = number_of names n
called_in names s = None

abbrev pub called : List (List ℕ) → Written → Option ℕ
called names (whole s) = called_in names s
called names w = None

-- what is written where it is declared
abbrev pub opened : List (List ℕ) → List Shape → Written → Written
opened names bodies (whole f) = whole (named_goal names bodies f)
opened names bodies w = w

abbrev pub if_same : Operator → Operator → List Shape → List Shape
if_same operator.Serial operator.Serial ss = ss
if_same operator.Beside operator.Beside ss = ss
if_same operator.Either operator.Either ss = ss
if_same _ _ ss = []

-- the members that the operator joins
abbrev pub members_in : Operator → Shape → List Shape
members_in op (serial ss) = if_same op operator.Serial (members ss)
members_in op (beside ss) = if_same op operator.Beside (members ss)
members_in op (either ss) = if_same op operator.Either (members ss)
members_in op s = []

abbrev pub members_of : Operator → Written → List Shape
members_of op lost = []
members_of op (whole s) = members_in op s
members_of op (first op2 ss) = if_same op op2 ss

abbrev pub joined : Operator → List Shape → Written
joined op [] = lost
joined op (s ∷ []) = whole s
joined op (s ∷ r ∷ ss) = first op (s ∷ r ∷ ss)

-- what stands at a place of a list
abbrev pub at_place : Option Shape → Written
at_place None = lost
at_place (Some s) = whole s

-- what is written beside the left one of two goals: members are joined from the left
abbrev pub left_of : Operator → Written → Written
left_of op w = joined op (take (length (members_of op w) - 1) (members_of op w))

-- and beside the right one
abbrev pub right_of : Operator → Written → Written
right_of op w = at_place (slice_get (members_of op w) (length (members_of op w) - 1))

abbrev pub body_of : Written → Written
body_of (whole (iso s)) = whole s
body_of w = lost

-- a sub-workflow that was put in is framed
abbrev pub under : List (List ℕ) → Option ℕ → Sketch → Sketch
under captions None a = a
under captions (Some k) a = framed (Called k (letters captions k)) a

-- of what a part is a side, where a frame ends that
abbrev pub within_frame : Option ℕ → Option Sides → Option Sides
within_frame None within = within
within_frame (Some k) within = None

-- a fork that is a side of one of the same kind has no bars
abbrev pub fork : Option Sides → Sides → Fork
fork None sides = record { sides = sides; barred = true }
fork (Some Beside) Beside = record { sides = Beside; barred = false }
fork (Some Beside) Either = record { sides = Either; barred = true }
fork (Some Either) Beside = record { sides = Beside; barred = true }
fork (Some Either) Either = record { sides = Either; barred = false }

-- what joins the sides of a fork
abbrev pub operator_of : Sides → Operator
operator_of Beside = operator.Beside
operator_of Either = operator.Either

-- what is drawn of a goal, given what is drawn of it inside its frame
abbrev pub drawn_by : Sources → (Option Sides → Written → Sketch) → Option Sides → Written → Sketch
drawn_by s inside within w = under s.captions (called s.names w) (inside (within_frame (called s.names w) within) (opened s.names s.bodies w))

-- what is drawn of a goal inside its frame
abbrev pub inside : Sources → Process → Option Sides → Written → Sketch
inside s Empty within w = gap
inside s (Task n) within w = box n (letters s.boxes n)
inside s (Sequence a b) within w =
    row (drawn_by s (inside s a) None (left_of operator.Serial w)) (drawn_by s (inside s b) None (right_of operator.Serial w))
inside s (Parallel a b) within w = forked (fork within Beside)
    (drawn_by s (inside s a) (Some Beside) (left_of operator.Beside w)) (drawn_by s (inside s b) (Some Beside) (right_of operator.Beside w))
inside s (Choice a b) within w = forked (fork within Either)
    (drawn_by s (inside s a) (Some Either) (left_of operator.Either w)) (drawn_by s (inside s b) (Some Either) (right_of operator.Either w))
inside s (Isolated a) within w = framed Iso (drawn_by s (inside s a) None (body_of w))

-- what is drawn of a goal that is a side, or none, beside which that is written
abbrev pub drawn : Sources → Process → Option Sides → Written → Sketch
drawn s q within w = drawn_by s (inside s q) within w

-- what is drawn of a goal that was made of what is written
abbrev pub drawing : Said → Labels → Process → Sketch
drawing said labels q = drawn (sources said.decls labels) q None (whole said.goal)
