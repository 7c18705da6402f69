-- A picture of a workflow as an SVG.
use Rattle.std.specs.Prelude.{◌≡◌, ℕ, ◌+◌, ◌/◌, max, List, ◌++◌, Option}
use Rattle.flow_view.specs.declared.labels.Labels.{Labels}
use Rattle.flow_view.specs.declared.mark.Mark.{Mark}
use Rattle.flow_view.specs.declared.picture.Picture.{Picture}
use Rattle.flow_svg.specs.Courses.{courses_in, lanes_top, last_lane}
use Rattle.flow_svg.specs.Cuts.{AreRows}
use Rattle.flow_svg.specs.Notes.{notes_text, notes_bottom, notes_width, legend_text, legend_bottom, legend_width, left_out_text, left_out_bottom}
use Rattle.flow_svg.specs.Orders.{orders_text}
use Rattle.flow_svg.specs.Page.{page_text, ends_text, heading_width}
use Rattle.flow_svg.specs.Rows.{folded_text, folded_bottom, folded_width}
use Rattle.flow_svg.specs.Shapes.{shape_lines}

-- the height below the lanes of arrows
abbrev pub lanes_bottom : Picture → ℕ
lanes_bottom p = last_lane (lanes_top p) (courses_in p) + 40

-- the arrows in lanes below the picture, and the shapes, which are drawn over them
unfoldable pub drawing_text : Picture → Labels → List Mark → List ℕ
drawing_text p labels marks = orders_text (courses_in p) ++ shape_lines labels marks p.shapes.items ++ ends_text p.width (p.height / 2)

-- the height below the picture, in rows that end at these places where there are any
abbrev pub rows_bottom : Picture → List ℕ → ℕ
rows_bottom p cuts = folded_bottom (lanes_bottom p) cuts

-- the picture, and whether arrows are left out
unfoldable pub picture_text : Picture → Labels → List Mark → List ℕ → List ℕ
picture_text p labels marks cuts =
    folded_text (lanes_bottom p) (drawing_text p labels marks) cuts ++ left_out_text (rows_bottom p cuts) p.left_out

abbrev pub picture_bottom : Picture → List ℕ → ℕ
picture_bottom p cuts = left_out_bottom (rows_bottom p cuts) p.left_out

-- what marks mean, and the constraints
unfoldable pub under_text : ℕ → List Mark → List (List ℕ) → List ℕ
under_text top marks rules = legend_text top marks ++ notes_text (legend_bottom top marks + 16) 0 rules

abbrev pub under_bottom : ℕ → List Mark → List (List ℕ) → ℕ
under_bottom top marks rules = notes_bottom (legend_bottom top marks + 16) rules

abbrev pub page_width : Picture → List Mark → List (List ℕ) → List ℕ → List ℕ → ℕ
page_width p marks rules title cuts = max (folded_width p.width cuts) (max (max (legend_width marks) (notes_width rules)) (heading_width title))

-- the picture under a title, in rows that end at these places where there are any, and what stands under it
abbrev pub svg_text : Picture → Labels → List Mark → List (List ℕ) → List ℕ → List ℕ → List ℕ
svg_text p labels marks rules title cuts =
    page_text title (page_width p marks rules title cuts + 32) (under_bottom (picture_bottom p cuts) marks rules + 32)
    (picture_text p labels marks cuts ++ under_text (picture_bottom p cuts) marks rules)

-- the same, where its rows may be so wide
abbrev pub IsSvg : Picture → Labels → List Mark → List (List ℕ) → List ℕ → Option ℕ → List ℕ → Type 0
IsSvg p labels marks rules title fold text = (cuts : List ℕ) × AreRows p fold cuts × (text ≡ svg_text p labels marks rules title cuts)
