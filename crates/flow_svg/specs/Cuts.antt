-- Where a picture is cut into rows. Places are counted from the left edge of what lies around it, 16 pixels left of its canvas.
use Rattle.std.specs.Prelude.{◌≡◌, ◌<◌, ◌≤◌, ◌⊎◌, ℕ, ◌+◌, ◌*◌, ◌&&◌, nat_lt, if◌then◌else◌, List, [], ◌∷◌, ◌++◌, map, Option, None, Some}
use Rattle.std.specs.List.{flat_map}
use Rattle.flow_model.specs.Lists.{Each}
use Rattle.flow_view.specs.declared.picture.Picture.{Picture}
use Rattle.flow_view.specs.declared.scene.Frame.{Frame}
use Rattle.flow_view.specs.declared.scene.Frame.TheVariants.{Iso, Called}
use Rattle.flow_view.specs.declared.shape.Shape.{Shape}
use Rattle.flow_view.specs.declared.shape.Shape.TheVariants as shape
use Rattle.flow_svg.specs.declared.cuts.Span.{Span}
use Rattle.flow_svg.specs.declared.courses.Course.{Course}
use Rattle.flow_svg.specs.Courses.{courses_in}
use Rattle.flow_svg.specs.Orders.{number_place}

-- ---- what no cut goes through

abbrev pub span : ℕ → ℕ → Span
span left right = record { left = left; right = right }

abbrev pub caption_letters : Frame → ℕ
caption_letters Iso = 3
caption_letters (Called flow letters) = letters

-- A box with 8 pixels on either side, and a bar with 10, as wide as its lozenge. Of a frame its left edge with the caption, and its right
-- edge; what lies between them may be cut.
abbrev pub shape_spans : Shape → List Span
shape_spans (shape.Leaf leaf place) = span (place.left + 8) (place.right + 24) ∷ []
shape_spans (shape.Bar sides place) = span (place.left + 6) (place.right + 26) ∷ []
shape_spans (shape.Frame frame place) =
    span (place.left + 8) (place.left + 32 + 8 * caption_letters frame) ∷ span (place.right + 8) (place.right + 24) ∷ []
shape_spans (shape.Line left right at) = []

-- the number of a constraint on its arrow
abbrev pub number_span : Course → Span
number_span c = span (number_place c + 6) (number_place c + 26)

-- where the picture begins and ends
abbrev pub end_spans : ℕ → List Span
end_spans width = span 0 28 ∷ span (width + 4) (width + 32) ∷ []

abbrev pub spans_in : Picture → List Span
spans_in p = end_spans p.width ++ flat_map shape_spans p.shapes.items ++ map number_span (courses_in p)

-- ---- rows

-- the first of them that has the place between its ends
abbrev pub span_at : List Span → ℕ → Option Span
span_at [] x = None
span_at (s ∷ ss) x = if nat_lt s.left x && nat_lt x s.right then Some s else span_at ss x

-- a cut there goes through none of them
abbrev pub IsClear : List Span → ℕ → Type 0
IsClear spans x = Each (λ s. (x ≤ s.left) ⊎ (s.right ≤ x)) spans

-- the last clear place that a row reaches which is no wider than it may be
pub record IsFarthest (spans : List Span) (width start cut : ℕ) : Type 0 where
  pub behind : start < cut
  pub narrow : cut ≤ start + width
  pub clear : IsClear spans cut
  pub last : (x : ℕ) → cut < x → x ≤ start + width → ¬ (IsClear spans x)

-- such a row reaches no clear place: this is the first one behind, or the end
pub record IsNearest (spans : List Span) (width end start cut : ℕ) : Type 0 where
  pub beyond : start + width < cut
  pub within : cut ≤ end
  pub clear : (cut ≡ end) ⊎ IsClear spans cut
  pub first : (x : ℕ) → start < x → x < cut → ¬ (IsClear spans x)

-- a row from there ends with the picture where that is near enough, and else at the farthest clear place, or where there is none at the nearest
abbrev pub IsRowEnd : List Span → ℕ → ℕ → ℕ → ℕ → Type 0
IsRowEnd spans width end start cut =
    ((end ≤ start + width) × (cut ≡ end)) ⊎ ((start + width < end) × (IsFarthest spans width start cut ⊎ IsNearest spans width end start cut))

-- the places at which rows end, one after another, up to the end
abbrev pub AreCuts : List Span → ℕ → ℕ → ℕ → List ℕ → Type 0
AreCuts spans width end start [] = start ≡ end
AreCuts spans width end start (cut ∷ cuts) = (start < end) × IsRowEnd spans width end start cut × AreCuts spans width end cut cuts

-- the ends of the rows of a picture that is folded; one that is not has none
abbrev pub AreRows : Picture → Option ℕ → List ℕ → Type 0
AreRows p None cuts = cuts ≡ []
AreRows p (Some width) cuts = AreCuts (spans_in p) width (p.width + 32) 0 cuts
