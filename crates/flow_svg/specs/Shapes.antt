-- The shapes of a picture as lines of an SVG.
use Rattle.std.specs.Prelude.{ℕ, ◌+◌, ◌/◌, List, [], ◌∷◌, ◌++◌, codes}
use Rattle.std.specs.List.{flat_map}
use Rattle.std.specs.Fmt.{decimal}
use Rattle.flow_view.specs.declared.labels.Labels.{Labels}
use Rattle.flow_view.specs.declared.mark.Mark.{Mark}
use Rattle.flow_view.specs.declared.mark.Mark.TheVariants.{Plain}
use Rattle.flow_view.specs.declared.scene.Frame.{Frame}
use Rattle.flow_view.specs.declared.scene.Frame.TheVariants.{Iso, Called}
use Rattle.flow_view.specs.declared.scene.Sides.{Sides}
use Rattle.flow_view.specs.declared.scene.Sides.TheVariants.{Beside, Either}
use Rattle.flow_view.specs.declared.shape.Place.{Place}
use Rattle.flow_view.specs.declared.shape.Shape.{Shape}
use Rattle.flow_view.specs.declared.shape.Shape.TheVariants as shape
use Rattle.flow_svg.specs.Element.{rect_text, words_text}
use Rattle.flow_draw.specs.Lookup.{text_at, mark_at, mark_word, frame_caption}
use Rattle.flow_draw.specs.Pieces.{joined}

-- the middle of a place, from the left and from the top
abbrev pub middle : Place → ℕ
middle place = (place.left + place.right) / 2

abbrev pub center : Place → ℕ
center place = (place.top + place.bottom) / 2

-- a label stands higher in its box where a mark's word stands under it
abbrev pub label_drop : Mark → ℕ
label_drop Plain = 25
label_drop marked = 18

-- the word of a mark, in small letters at the foot of the box
abbrev pub mark_text : Place → Mark → List ℕ
mark_text place Plain = []
mark_text place marked = words_text (codes "mark") (middle place) place.top 34 (mark_word marked)

unfoldable pub leaf_head : ℕ → List ℕ → List ℕ
leaf_head leaf word = joined (codes "<g id=\"leaf-" ∷ decimal leaf ∷ codes "\" class=\"leaf " ∷ word ∷ codes "\">" ∷ [])

-- the box of a leaf with its label, and with its mark as a class and in words
unfoldable pub leaf_line : ℕ → Place → List ℕ → Mark → List ℕ
leaf_line leaf place label mark =
    leaf_head leaf (mark_word mark) ++ rect_text place 6
    ++ words_text (codes "label") (middle place) place.top (label_drop mark) label ++ mark_text place mark ++ codes "</g>\n"

abbrev pub frame_class : Frame → List ℕ
frame_class Iso = codes "iso"
frame_class (Called flow letters) = codes "flow"

-- the head of a group
unfoldable pub group_text : List ℕ → List ℕ → List ℕ
group_text family kind = joined (codes "<g class=\"" ∷ family ∷ codes " " ∷ kind ∷ codes "\">" ∷ [])

unfoldable pub frame_line : Frame → Place → List ℕ → List ℕ
frame_line frame place caption =
    group_text (codes "frame") (frame_class frame) ++ rect_text place 8
    ++ words_text (codes "caption") (place.left + 10) place.top 14 caption ++ codes "</g>\n"

-- a lozenge with the sign of a choice
unfoldable pub lozenge_text : ℕ → ℕ → List ℕ
lozenge_text x y = joined (
    codes "<path d=\"M" ∷ decimal x ∷ codes " " ∷ decimal y ∷ codes "m0 -12l12 12l-12 12l-12 -12z\"/><text x=\"" ∷ decimal x
    ∷ codes "\" y=\"" ∷ decimal y ∷ codes "\" dy=\"5\">+</text>" ∷ [])

abbrev pub sides_class : Sides → List ℕ
sides_class Beside = codes "beside"
sides_class Either = codes "either"

abbrev pub sign_text : Sides → ℕ → ℕ → List ℕ
sign_text Beside x y = []
sign_text Either x y = lozenge_text x y

-- where all sides part or meet a full bar, and where one side is chosen a hollow one with a lozenge in its middle
abbrev pub bar_line : Sides → Place → List ℕ
bar_line sides place =
    group_text (codes "bar") (sides_class sides) ++ rect_text place 4 ++ sign_text sides (middle place) (center place) ++ codes "</g>\n"

unfoldable pub level_line : ℕ → ℕ → ℕ → List ℕ
level_line left right at =
    joined (codes "<path class=\"line\" d=\"M" ∷ decimal left ∷ codes " " ∷ decimal at ∷ codes "H" ∷ decimal right ∷ codes "\"/>\n" ∷ [])

abbrev pub shape_line : Labels → List Mark → Shape → List ℕ
shape_line labels marks (shape.Leaf leaf place) = leaf_line leaf place (text_at labels.boxes.items leaf) (mark_at marks leaf)
shape_line labels marks (shape.Frame frame place) = frame_line frame place (frame_caption labels frame)
shape_line labels marks (shape.Bar sides place) = bar_line sides place
shape_line labels marks (shape.Line left right at) = level_line left right at

-- a line a shape, in order: a frame is drawn before what it encloses
abbrev pub shape_lines : Labels → List Mark → List Shape → List ℕ
shape_lines labels marks shapes = flat_map (shape_line labels marks) shapes
