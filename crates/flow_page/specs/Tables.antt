-- Tables of a page.
use Rattle.std.specs.Prelude.{ℕ, Bool, true, false, List, [], ◌∷◌, ◌++◌, codes}
use Rattle.std.specs.List.{flat_map}
use Rattle.std.specs.Fmt.{decimal}
use Rattle.flow_draw.specs.declared.format.Format.TheVariants.{Svg}
use Rattle.flow_draw.specs.Escape.{escaped}
use Rattle.flow_draw.specs.Pieces.{joined}
use Rattle.flow_page.specs.declared.data.Row.{Row}
use Rattle.flow_page.specs.declared.data.Table.{Table}

-- the head of a column
unfoldable pub column_text : List ℕ → List ℕ
column_text head = joined (codes "<th scope=\"col\">" ∷ escaped Svg head ∷ codes "</th>" ∷ [])

unfoldable pub cell_text : List ℕ → List ℕ
cell_text cell = joined (codes "<td>" ∷ escaped Svg cell ∷ codes "</td>" ∷ [])

-- what was taken back is marked, as a class and in words
abbrev pub row_open : Bool → List ℕ
row_open false = codes "<tr><th scope=\"row\">"
row_open true = codes "<tr class=\"taken-back\"><th scope=\"row\">"

abbrev pub row_mark : Bool → List ℕ
row_mark false = codes "</th>"
row_mark true = codes " <em>taken back</em></th>"

unfoldable pub row_head_text : Bool → List ℕ → List ℕ
row_head_text is_taken_back head = joined (row_open is_taken_back ∷ escaped Svg head ∷ row_mark is_taken_back ∷ [])

-- a row: its head, and the other cells, in order
unfoldable pub row_text : Row → List ℕ
row_text row = row_head_text row.is_taken_back row.head ++ flat_map cell_text row.cells.items ++ codes "</tr>\n"

-- the label of a table is the heading of that number
unfoldable pub table_open : ℕ → List ℕ
table_open number = joined (codes "<div class=\"wide\"><table aria-labelledby=\"part-" ∷ decimal number ∷ codes "\">\n<thead><tr>" ∷ [])

-- the heads of the columns, in order
unfoldable pub heads_text : ℕ → List (List ℕ) → List ℕ
heads_text number heads = table_open number ++ flat_map column_text heads ++ codes "</tr></thead>\n"

-- each row once, in order
unfoldable pub body_text : List Row → List ℕ
body_text rows = codes "<tbody>\n" ++ flat_map row_text rows ++ codes "</tbody>\n</table></div>\n"

unfoldable pub table_text : ℕ → Table → List ℕ
table_text number table = heads_text number table.heads.items ++ body_text table.rows.items
