-- The rows of a picture that is folded. It is drawn once, 16 pixels to the right, and each row shows a part of it.
use Rattle.std.specs.Prelude.{ℕ, ◌+◌, ◌-◌, max, List, [], ◌∷◌, ◌++◌, codes}
use Rattle.std.specs.Fmt.{decimal}
use Rattle.flow_svg.specs.declared.rows.TheConstants.{UNSEEN, UNSEEN_END}
use Rattle.flow_draw.specs.Pieces.{joined}

-- so much of it from the left, in a row at a height
unfoldable pub row_text : ℕ → ℕ → ℕ → ℕ → List ℕ
row_text y high start wide = joined (
    codes "<svg x=\"-16\" y=\"" ∷ decimal y ∷ codes "\" width=\"" ∷ decimal wide ∷ codes "\" height=\"" ∷ decimal high
    ∷ codes "\" viewBox=\"" ∷ decimal start ∷ codes " 0 " ∷ decimal wide ∷ codes " " ∷ decimal high
    ∷ codes "\"><use href=\"#picture\"/></svg>\n" ∷ [])

-- the rows that end at these places, one under another from a height on
abbrev pub rows_text : ℕ → ℕ → ℕ → List ℕ → List ℕ
rows_text y high start [] = []
rows_text y high start (cut ∷ cuts) = row_text y high start (cut - start) ++ rows_text (y + high) high cut cuts

-- the height behind them
abbrev pub rows_end : ℕ → ℕ → List ℕ → ℕ
rows_end y high [] = y
rows_end y high (cut ∷ cuts) = rows_end (y + high) high cuts

-- how wide the widest is, where one above is so wide
abbrev pub widest : ℕ → ℕ → List ℕ → ℕ
widest width start [] = width
widest width start (cut ∷ cuts) = widest (max width (cut - start)) cut cuts

-- a drawing that is not seen by itself
unfoldable pub unseen : List ℕ → List ℕ
unseen drawing = UNSEEN.now ++ drawing ++ UNSEEN_END.now

-- such a drawing, and the rows of that height that show parts of it
unfoldable pub shown_in_rows : ℕ → List ℕ → List ℕ → List ℕ
shown_in_rows high drawing cuts = unseen drawing ++ rows_text 0 high 0 cuts

-- a drawing, as it is or in rows
abbrev pub folded_text : ℕ → List ℕ → List ℕ → List ℕ
folded_text high drawing [] = drawing
folded_text high drawing (cut ∷ cuts) = shown_in_rows high drawing (cut ∷ cuts)

abbrev pub folded_bottom : ℕ → List ℕ → ℕ
folded_bottom high [] = high
folded_bottom high (cut ∷ cuts) = rows_end 0 high (cut ∷ cuts)

-- how wide it is without what lies around it
abbrev pub folded_width : ℕ → List ℕ → ℕ
folded_width width [] = width
folded_width width (cut ∷ cuts) = widest 0 0 (cut ∷ cuts) - 32
