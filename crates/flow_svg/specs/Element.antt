-- Rectangles and words of an SVG.
use Rattle.std.specs.Prelude.{ℕ, ◌-◌, List, [], ◌∷◌, codes}
use Rattle.std.specs.Fmt.{decimal}
use Rattle.flow_view.specs.declared.shape.Place.{Place}
use Rattle.flow_draw.specs.declared.format.Format.TheVariants.{Svg}
use Rattle.flow_draw.specs.Escape.{escaped}
use Rattle.flow_draw.specs.Pieces.{joined}

-- a rectangle, its corners so round
unfoldable pub rect_text : Place → ℕ → List ℕ
rect_text place round = joined (
    codes "<rect x=\"" ∷ decimal place.left ∷ codes "\" y=\"" ∷ decimal place.top
    ∷ codes "\" width=\"" ∷ decimal (place.right - place.left) ∷ codes "\" height=\"" ∷ decimal (place.bottom - place.top)
    ∷ codes "\" rx=\"" ∷ decimal round ∷ codes "\"/>" ∷ [])

-- words of a class, so far to the right, and so much below a height
unfoldable pub words_text : List ℕ → ℕ → ℕ → ℕ → List ℕ → List ℕ
words_text class x y down words = joined (
    codes "<text class=\"" ∷ class ∷ codes "\" x=\"" ∷ decimal x ∷ codes "\" y=\"" ∷ decimal y
    ∷ codes "\" dy=\"" ∷ decimal down ∷ codes "\">" ∷ escaped Svg words ∷ codes "</text>" ∷ [])
