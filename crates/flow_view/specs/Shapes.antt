-- What is drawn of a picture's parts, and where.
use Rattle.std.specs.Prelude.{◌+◌, ◌-◌, ◌*◌, ℕ, List, [], ◌∷◌, ◌++◌, nat_lt, if◌then◌else◌, Option, Some, None, max}
use Rattle.flow_view.specs.declared.scene.Fork.{Fork}
use Rattle.flow_view.specs.declared.scene.Sides.{Sides}
use Rattle.flow_view.specs.declared.shape.Place.{Place}
use Rattle.flow_view.specs.declared.shape.Shape.{Shape}
use Rattle.flow_view.specs.declared.shape.Shape.TheVariants.{Leaf, Frame, Bar, Line}
use Rattle.flow_view.specs.declared.span.Span.{Span}
use Rattle.flow_view.specs.declared.size.TheConstants.{BAR, FORK, FRAME, GAP, MARGIN, SPLIT}
use Rattle.flow_view.specs.Sketch.{Sketch, gap, box, row, forked, framed}
use Rattle.flow_view.specs.Sizes.{width, half, canvas_width}

-- a level line, where it has a length
abbrev pub line : ℕ → ℕ → ℕ → List Shape
line left right at = if nat_lt left right then Line left right at ∷ [] else []

-- so wide and so far up and down from the axis
abbrev pub place : ℕ → ℕ → ℕ → ℕ → Place
place left wide axis up = record { left = left; top = axis - up; right = left + wide; bottom = axis + up }

-- where the part stands that a line leads to
abbrev pub start : Span → ℕ
start s = s.left + s.lead

-- the line that leads to a part so wide, the part, and the line that leads on
abbrev pub led : Span → ℕ → List Shape → List Shape
led s wide part = (line s.left (start s) s.axis ++ part) ++ line (start s + wide) s.right s.axis

-- the span of the left part of a row, and that of the right one
abbrev pub left_span : ℕ → Span → Span
left_span wide s = record s { right = start s + wide }

abbrev pub right_span : ℕ → Span → Span
right_span wide s = record s { lead = GAP; left = start s + wide }

-- the span between the bars of a fork whose sides are so wide
abbrev pub between_bars : ℕ → Span → Span
between_bars wide s = record s { lead = FORK; left = start s + BAR; right = start s + BAR + (2 * FORK + wide) }

-- the span of a side above, and that of one below
abbrev pub upper : ℕ → Span → Span
upper below s = record s { axis = s.axis - (SPLIT + below) }

abbrev pub lower : ℕ → Span → Span
lower above s = record s { axis = s.axis + (SPLIT + above) }

abbrev pub bar : Sides → ℕ → ℕ → ℕ → Shape
bar sides left axis up = Bar sides (place left BAR axis up)

-- the sides with their bars, where they have their own
abbrev pub with_bars : Fork → ℕ → ℕ → Span → (Span → List Shape) → List Shape
with_bars f wide up s sides = if f.barred
    then led s (wide + 2 * (BAR + FORK)) (bar f.sides (start s) s.axis up ∷ (sides (between_bars wide s) ++ bar f.sides (start s + BAR + (2 * FORK + wide)) s.axis up ∷ []))
    else sides s

-- the span of what a frame so wide holds
abbrev pub in_frame : ℕ → Span → Span
in_frame wide s = record s { lead = FRAME; left = start s; right = start s + wide }

-- what is drawn of a part in a span
abbrev pub shapes_in : Sketch → Span → List Shape
shapes_in gap s = line s.left s.right s.axis
shapes_in (box n letters) s = led s (width (box n letters)) (Leaf n (place (start s) (width (box n letters)) s.axis (half (box n letters))) ∷ [])
shapes_in (row a b) s = shapes_in a (left_span (width a) s) ++ shapes_in b (right_span (width a) s)
shapes_in (forked f a b) s = with_bars f (max (width a) (width b)) (half a + SPLIT + half b) s
    (λ t. shapes_in a (upper (half b) t) ++ shapes_in b (lower (half a) t))
shapes_in (framed f a) s = led s (width (framed f a))
    (Frame f (place (start s) (width (framed f a)) s.axis (half (framed f a))) ∷ shapes_in a (in_frame (width (framed f a)) s))

-- the whole canvas
abbrev pub canvas : Sketch → Span
canvas s = record { lead = MARGIN; left = 0; right = canvas_width s; axis = half s + MARGIN }

-- the whole picture
abbrev pub shapes_of : Sketch → List Shape
shapes_of s = shapes_in s (canvas s)

-- the leaf whose box it is
abbrev pub boxed_leaf : Shape → Option ℕ
boxed_leaf (Leaf n p) = Some n
boxed_leaf _ = None
