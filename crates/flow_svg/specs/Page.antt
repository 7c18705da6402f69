-- A page of an SVG.
use Rattle.std.specs.Prelude.{ℕ, ◌+◌, ◌*◌, min, List, [], ◌∷◌, ◌++◌, length, codes}
use Rattle.std.specs.Fmt.{decimal}
use Rattle.flow_svg.specs.declared.style.TheConstants.{STYLE}
use Rattle.flow_svg.specs.Lines.{wrapped, lines_text}
use Rattle.flow_draw.specs.declared.format.Format.TheVariants.{Svg}
use Rattle.flow_draw.specs.Escape.{escaped}
use Rattle.flow_draw.specs.Pieces.{joined}

-- so wide and so high, from so far above its middle on; in a narrow window it is as wide as that
unfoldable pub head_text : ℕ → ℕ → ℕ → List ℕ
head_text above width height = joined (
    codes "<svg xmlns=\"http://www.w3.org/2000/svg\" width=\"" ∷ decimal width ∷ codes "\" height=\"" ∷ decimal height
    ∷ codes "\" viewBox=\"-16 -" ∷ decimal above ∷ codes " " ∷ decimal width ∷ codes " " ∷ decimal height
    ∷ codes "\" style=\"max-width:100%;height:auto\" role=\"img\">\n" ∷ [])

-- how it looks
unfoldable pub look_text : ℕ → ℕ → ℕ → List ℕ
look_text above width height = joined (
    STYLE.now ∷ codes "<rect class=\"page\" x=\"-16\" y=\"-" ∷ decimal above ∷ codes "\" width=\"" ∷ decimal width
    ∷ codes "\" height=\"" ∷ decimal height ∷ codes "\"/>\n" ∷ [])

-- how high the title is in lines
abbrev pub heading_height : List ℕ → ℕ
heading_height title = 20 * length (wrapped title)

abbrev pub heading_width : List ℕ → ℕ
heading_width title = 9 * min (length title) 120

-- what a reader is told the page is
unfoldable pub name_text : List ℕ → List ℕ
name_text title = joined (codes "<title>" ∷ escaped Svg title ∷ codes "</title>\n" ∷ [])

unfoldable pub heading_open : ℕ → List ℕ
heading_open high = joined (codes "<g class=\"title\" transform=\"translate(-40 -" ∷ decimal high ∷ codes ")\">\n" ∷ [])

-- the name of the page where there is a title, and how it looks
abbrev pub named_text : List ℕ → List ℕ
named_text [] = []
named_text (b ∷ bs) = name_text (b ∷ bs)

-- the title over the picture, in lines that begin at its left edge
abbrev pub heading_text : List ℕ → List ℕ
heading_text [] = []
heading_text (b ∷ bs) = heading_open (heading_height (b ∷ bs)) ++ lines_text 0 (wrapped (b ∷ bs)) ++ codes "</g>\n"

-- a page of a title and a body that is so wide and so high
abbrev pub page_text : List ℕ → ℕ → ℕ → List ℕ → List ℕ
page_text title width height body =
    head_text (heading_height title + 16) width (height + heading_height title) ++ named_text title
    ++ look_text (heading_height title + 16) width (height + heading_height title) ++ heading_text title ++ body ++ codes "</svg>\n"

-- where a picture begins and ends
unfoldable pub ends_text : ℕ → ℕ → List ℕ
ends_text right axis = joined (
    codes "<circle class=\"start\" cx=\"0\" cy=\"" ∷ decimal axis ∷ codes "\" r=\"6\"/><circle class=\"start\" cx=\"" ∷ decimal right
    ∷ codes "\" cy=\"" ∷ decimal axis ∷ codes "\" r=\"4\"/><circle class=\"end\" cx=\"" ∷ decimal right ∷ codes "\" cy=\""
    ∷ decimal axis ∷ codes "\" r=\"7\"/>\n" ∷ [])
