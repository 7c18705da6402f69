-- How large the parts of a picture are.
use Rattle.std.specs.Prelude.{◌≡◌, ◌+◌, ◌*◌, ◌<◌, ◌≤◌, ℕ, max, if◌then◌else◌, ◌⊎◌}
use Rattle.flow_view.specs.declared.refusal.ViewRefusal.{ViewRefusal}
use Rattle.flow_view.specs.declared.refusal.ViewRefusal.TheVariants.{TooLarge, NoMemory}
use Rattle.flow_view.specs.declared.scene.Fork.{Fork}
use Rattle.flow_view.specs.declared.scene.Frame.{Frame}
use Rattle.flow_view.specs.declared.scene.Frame.TheVariants.{Iso, Called}
use Rattle.flow_view.specs.declared.scene.Scene.{Scene, Nop, Leaf, Serial', Forked', Framed'}
use Rattle.flow_view.specs.declared.size.Size.{Size}
use Rattle.flow_view.specs.declared.size.TheConstants.{BAR, CAPTION, FORK, FRAME, GAP, LEAF_HALF, LEAST_WIDTH, LETTER, MARGIN, MOST_PIXELS, NOP_HALF, SPLIT}
use Rattle.flow_view.specs.Sketch.{Sketch, gap, box, row, forked, framed, sketch_of}

-- what bars add to the width of a fork's sides
abbrev pub bars : Fork → ℕ
bars f = if f.barred then 2 * (BAR + FORK) else 0

-- how wide a caption is
abbrev pub caption : Frame → ℕ
caption Iso = 0
caption (Called flow letters) = LETTER * letters

abbrev pub width : Sketch → ℕ
width gap = GAP
width (box n letters) = LEAST_WIDTH + LETTER * letters
width (row a b) = width a + GAP + width b
width (forked f a b) = max (width a) (width b) + bars f
width (framed f a) = max (caption f) (width a) + 2 * FRAME

-- how far it reaches up and down from its axis
abbrev pub half : Sketch → ℕ
half gap = NOP_HALF
half (box n letters) = LEAF_HALF
half (row a b) = max (half a) (half b)
half (forked f a b) = half a + SPLIT + half b
half (framed f a) = half a + CAPTION

-- that of a whole picture
abbrev pub canvas_width : Sketch → ℕ
canvas_width s = width s + 2 * MARGIN

abbrev pub canvas_height : Sketch → ℕ
canvas_height s = 2 * (half s + MARGIN)

abbrev pub IsTooLarge : Sketch → Type 0
IsTooLarge s = (MOST_PIXELS < canvas_width s) ⊎ (MOST_PIXELS < canvas_height s)

-- the refusal is true of what is to be drawn
abbrev pub IsRefusal : Sketch → ViewRefusal → Type 0
IsRefusal s TooLarge = IsTooLarge s
IsRefusal s NoMemory = Unit {0}

-- a picture of it is not too large
pub record Fits (s : Sketch) : Type 0 where
  pub narrow : canvas_width s ≤ MOST_PIXELS
  pub low : canvas_height s ≤ MOST_PIXELS

-- the size is that of the part, of which a picture is not too large
pub record IsSize (size : Size) (s : Sketch) : Type 0 where
  pub width_is : size.width ≡ width s
  pub half_is : size.half ≡ half s
  pub fits : Fits s

-- each part has its size
abbrev pub IsMeasured : Scene → Type 0
IsMeasured Nop = Unit {0}
IsMeasured (Leaf n letters) = Fits (box n letters)
IsMeasured (Serial' size p a q b) = IsSize size (row (sketch_of a) (sketch_of b)) × IsMeasured a × IsMeasured b
IsMeasured (Forked' f size p a q b) = IsSize size (forked f (sketch_of a) (sketch_of b)) × IsMeasured a × IsMeasured b
IsMeasured (Framed' f size p a) = IsSize size (framed f (sketch_of a)) × IsMeasured a
