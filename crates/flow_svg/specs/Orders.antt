-- The arrows of constraints as lines of an SVG.
use Rattle.std.specs.Prelude.{ℕ, ◌+◌, ◌-◌, nat_lt, if◌then◌else◌, List, [], ◌∷◌, ◌++◌, codes}
use Rattle.std.specs.List.{flat_map}
use Rattle.std.specs.Fmt.{decimal}
use Rattle.flow_view.specs.declared.arrow.Arrow.{Arrow}
use Rattle.flow_svg.specs.declared.courses.Course.{Course}
use Rattle.flow_draw.specs.Pieces.{joined}
use Rattle.flow_svg.specs.Notes.{number_text}

-- down to the lane, along it, and up
unfoldable pub path_text : Course → ℕ → List ℕ → ℕ → List ℕ → List ℕ
path_text c turn around back up = joined (
    codes "<path class=\"order\" d=\"M" ∷ decimal c.start ∷ codes " " ∷ decimal c.top ∷ codes "V" ∷ decimal turn ∷ around
    ∷ decimal back ∷ up ∷ decimal c.bottom ∷ codes "\">" ∷ [])

-- with round turns
abbrev pub to_right : Course → List ℕ
to_right c = path_text c (c.lane - 8) (codes "q0 8 8 8H") (c.end - 8) (codes "q8 0 8 -8V")

abbrev pub to_left : Course → List ℕ
to_left c = path_text c (c.lane - 8) (codes "q0 8 -8 8H") (c.end + 8) (codes "q-8 0 -8 -8V")

-- and where its ends are too near for these
abbrev pub straight : Course → List ℕ
straight c = path_text c c.lane (codes "H") c.end (codes "V")

-- which leaf must come before which
unfoldable pub title_text : Arrow → List ℕ
title_text arrow = joined (
    codes "<title>constraint " ∷ decimal arrow.rule ∷ codes ": " ∷ decimal arrow.from ∷ codes " before " ∷ decimal arrow.to
    ∷ codes "</title></path>\n" ∷ [])

abbrev pub course_line : Course → List ℕ
course_line c =
    (if nat_lt 15 (c.end - c.start) then to_right c else if nat_lt 15 (c.start - c.end) then to_left c else straight c) ++ title_text c.arrow

-- the middle of the 36 pixels behind the first turn
abbrev pub number_place : Course → ℕ
number_place c = if nat_lt c.start c.end then c.start + 18 else c.start - 18

-- the number of the constraint stands there
abbrev pub number_line : Course → List ℕ
number_line c = number_text (number_place c) c.lane 4 c.arrow.rule

abbrev pub course_lines : List Course → List ℕ
course_lines cs = flat_map course_line cs

abbrev pub number_lines : List Course → List ℕ
number_lines cs = flat_map number_line cs

-- the numbers stand over all arrows
abbrev pub orders_text : List Course → List ℕ
orders_text cs = course_lines cs ++ number_lines cs
