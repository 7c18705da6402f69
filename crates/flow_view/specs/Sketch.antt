-- The parts of a picture, without pointers and with no sizes.
use Rattle.std.specs.Prelude.{ℕ}
use Rattle.flow_model.specs.Process.{Process, Empty, Task, Sequence, Parallel, Choice, Isolated}
use Rattle.flow_view.specs.declared.scene.Sides.{Sides}
use Rattle.flow_view.specs.declared.scene.Sides.TheVariants.{Beside, Either}
use Rattle.flow_view.specs.declared.scene.Fork.{Fork}
use Rattle.flow_view.specs.declared.scene.Frame.{Frame}
use Rattle.flow_view.specs.declared.scene.Frame.TheVariants.{Iso, Called}
use Rattle.flow_view.specs.declared.scene.Scene.{Scene, Nop, Leaf, Serial', Forked', Framed'}

pub data Sketch : Type 0 where
  gap : Sketch
  -- the box of that leaf, which shows so many letters
  box : ℕ → ℕ → Sketch
  -- the first, and to the right of it the second
  row : Sketch → Sketch → Sketch
  -- the first, and under it the second
  forked : Fork → Sketch → Sketch → Sketch
  framed : Frame → Sketch → Sketch

abbrev pub sketch_of : Scene → Sketch
sketch_of Nop = gap
sketch_of (Leaf n letters) = box n letters
sketch_of (Serial' size p a q b) = row (sketch_of a) (sketch_of b)
sketch_of (Forked' f size p a q b) = forked f (sketch_of a) (sketch_of b)
sketch_of (Framed' f size p a) = framed f (sketch_of a)

abbrev pub both : Sides → Process → Process → Process
both Beside = Parallel
both Either = Choice

abbrev pub framed_process : Frame → Process → Process
framed_process Iso q = Isolated q
framed_process (Called flow letters) q = q

-- the goal that is drawn
abbrev pub process_in : Sketch → Process
process_in gap = Empty
process_in (box n letters) = Task n
process_in (row a b) = Sequence (process_in a) (process_in b)
process_in (forked f a b) = both f.sides (process_in a) (process_in b)
process_in (framed f a) = framed_process f (process_in a)
