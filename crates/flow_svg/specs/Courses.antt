-- Where the arrows of constraints go.
use Rattle.std.specs.Prelude.{ℕ, zero, suc, ◌+◌, ◌-◌, ◌*◌, ◌%◌, ◌==◌, ◌&&◌, ◌||◌, min, max, nat_lt, Bool, true, false, if◌then◌else◌, List, [], ◌∷◌, ◌++◌, length, Option, Some, None, slice_get}
use Rattle.flow_view.specs.declared.arrow.Arrow.{Arrow}
use Rattle.flow_view.specs.declared.picture.Picture.{Picture}
use Rattle.flow_view.specs.declared.shape.Place.{Place}
use Rattle.flow_view.specs.declared.shape.Shape.{Shape}
use Rattle.flow_view.specs.declared.shape.Shape.TheVariants as shape
use Rattle.flow_svg.specs.declared.courses.Course.{Course}
use Rattle.flow_svg.specs.declared.courses.End.{End}
use Rattle.flow_svg.specs.declared.courses.End.TheVariants.{Exit, Entry}

-- the place of the leaf's box
abbrev pub box_of : List Shape → ℕ → Option Place
box_of [] leaf = None
box_of (shape.Leaf n place ∷ shapes) leaf = if n == leaf then Some place else box_of shapes leaf
box_of (other ∷ shapes) leaf = box_of shapes leaf

-- how far a place of a box's lower edge is from its corner: farther apart in a wide box
abbrev pub aside : Place → ℕ → ℕ
aside place number = if nat_lt (place.right - place.left) 144 then 6 + 5 * number else 6 + 9 * number

-- arrows leave a box at places from its right corner on, and reach one at places from its left corner on
abbrev pub place_at : End → Place → ℕ → ℕ
place_at Exit place number = place.right - aside place number
place_at Entry place number = place.left + aside place number

-- less than four pixels apart
abbrev pub is_near : ℕ → ℕ → Bool
is_near a b = nat_lt (a - b) 4 && nat_lt (b - a) 4

-- none of the arrows goes down or up there
abbrev pub is_open : ℕ → List Course → Bool
is_open x [] = true
is_open x (c ∷ cs) = if is_near c.start x || is_near c.end x then false else is_open x cs

-- the first open one of so many places, from that number on, and where none is, the next in turn
unfoldable pub open_from : End → Place → List Course → ℕ → ℕ → ℕ
open_from end place cs number zero = place_at end place (length cs % 8)
open_from end place cs number (suc more) =
    if is_open (place_at end place number) cs then place_at end place number else open_from end place cs (number + 1) more

-- of the eight places of a box
abbrev pub open_place : End → Place → List Course → ℕ
open_place end place cs = open_from end place cs 0 8

-- what an arrow takes of its lane: from one of its ends to the other, and 36 pixels behind its first turn for its number
unfoldable pub left_end : Course → ℕ
left_end c = if nat_lt c.start c.end then c.start else min c.end (c.start - 36)

unfoldable pub right_end : Course → ℕ
right_end c = if nat_lt c.start c.end then max c.end (c.start + 36) else c.start

-- an arrow stays in the lane of the one before it exactly where both are of one constraint and it begins right of where that one ends
unfoldable pub shares : Option Course → Course → Bool
shares None c = false
shares (Some last) c = last.arrow.rule == c.arrow.rule && nat_lt (right_end last) (left_end c)

abbrev pub last_of : List Course → Option Course
last_of cs = slice_get cs (length cs - 1)

abbrev pub lane_in : ℕ → Option Course → ℕ
lane_in top None = top
lane_in top (Some last) = last.lane

-- the last lane, or the height above all lanes
abbrev pub last_lane : ℕ → List Course → ℕ
last_lane top cs = lane_in top (last_of cs)

-- else it has a lane below that one
abbrev pub lane_of : ℕ → List Course → Course → ℕ
lane_of top cs c = if shares (last_of cs) c then last_lane top cs else last_lane top cs + 20

-- from the lower edge of the one box to that of the other, with no lane yet
abbrev pub ends_of : ℕ → List Course → Place → Place → Arrow → Course
ends_of top cs from to arrow = record {
  arrow = arrow;
  start = open_place Exit from cs;
  top = from.bottom;
  lane = top;
  end = open_place Entry to cs;
  bottom = to.bottom;
}

unfoldable pub next_course : ℕ → List Course → Place → Place → Arrow → Course
next_course top cs from to arrow = record (ends_of top cs from to arrow) { lane = lane_of top cs (ends_of top cs from to arrow) }

-- if both of its leaves have a box
abbrev pub with_course : ℕ → List Course → Option Place → Option Place → Arrow → List Course
with_course top cs (Some from) (Some to) arrow = cs ++ next_course top cs from to arrow ∷ []
with_course top cs from to arrow = cs

-- one arrow after another
abbrev pub courses_after : List Shape → ℕ → List Course → List Arrow → List Course
courses_after shapes top cs [] = cs
courses_after shapes top cs (arrow ∷ arrows) = courses_after shapes top (with_course top cs (box_of shapes arrow.from) (box_of shapes arrow.to) arrow) arrows

-- in lanes below that height
abbrev pub courses_of : List Shape → ℕ → List Arrow → List Course
courses_of shapes top arrows = courses_after shapes top [] arrows

-- the height below which the lanes of a picture are
abbrev pub lanes_top : Picture → ℕ
lanes_top p = p.height - 24

-- the arrows of a picture
abbrev pub courses_in : Picture → List Course
courses_in p = courses_of p.shapes.items (lanes_top p) p.arrows.items
