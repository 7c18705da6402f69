-- What stands under a picture in an SVG.
use Rattle.std.specs.Prelude.{ℕ, ◌+◌, ◌*◌, min, max, Bool, true, false, List, [], ◌∷◌, ◌++◌, length, codes}
use Rattle.std.specs.Fmt.{decimal}
use Rattle.flow_view.specs.declared.mark.Mark.{Mark}
use Rattle.flow_svg.specs.declared.style.TheConstants.{LEGEND, LEGEND_HEIGHT, LEGEND_WIDTH, LEFT_OUT}
use Rattle.flow_svg.specs.Element.{words_text}
use Rattle.flow_svg.specs.Lines.{wrapped, lines_text}
use Rattle.flow_draw.specs.Pieces.{joined}

-- the number of a constraint
unfoldable pub number_text : ℕ → ℕ → ℕ → ℕ → List ℕ
number_text x y down number = joined (
    codes "<text class=\"number\" x=\"" ∷ decimal x ∷ codes "\" y=\"" ∷ decimal y ∷ codes "\" dy=\"" ∷ decimal down
    ∷ codes "\">" ∷ decimal number ∷ codes "</text>\n" ∷ [])

-- the constraints from that number on, each with its number before its lines, one under another from a height on
abbrev pub notes_text : ℕ → ℕ → List (List ℕ) → List ℕ
notes_text y number [] = []
notes_text y number (rule ∷ rules) =
    number_text 12 y 0 number ++ lines_text y (wrapped rule) ++ notes_text (y + 20 * length (wrapped rule)) (number + 1) rules

-- the height behind them
abbrev pub notes_bottom : ℕ → List (List ℕ) → ℕ
notes_bottom y [] = y
notes_bottom y (rule ∷ rules) = notes_bottom (y + 20 * length (wrapped rule)) rules

-- how wide they are
abbrev pub notes_width : List (List ℕ) → ℕ
notes_width [] = 0
notes_width (rule ∷ rules) = max (40 + 8 * min (length rule) 120) (notes_width rules)

unfoldable pub legend_at : ℕ → List ℕ
legend_at y = joined (codes "<g transform=\"translate(0 " ∷ decimal y ∷ codes ")\">\n" ∷ LEGEND.now ∷ codes "</g>\n" ∷ [])

-- what marks mean, where there are marks
abbrev pub legend_text : ℕ → List Mark → List ℕ
legend_text y [] = []
legend_text y (mark ∷ marks) = legend_at y

abbrev pub legend_bottom : ℕ → List Mark → ℕ
legend_bottom y [] = y
legend_bottom y (mark ∷ marks) = y + LEGEND_HEIGHT

abbrev pub legend_width : List Mark → ℕ
legend_width [] = 0
legend_width (mark ∷ marks) = LEGEND_WIDTH

-- that arrows are left out, where they are
abbrev pub left_out_text : ℕ → Bool → List ℕ
left_out_text y false = []
left_out_text y true = words_text (codes "note") 0 y 0 LEFT_OUT.now

abbrev pub left_out_bottom : ℕ → Bool → ℕ
left_out_bottom y false = y
left_out_bottom y true = y + 20
