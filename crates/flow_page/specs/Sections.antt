-- Sections of a page.
use Rattle.std.specs.Prelude.{ℕ, suc, List, [], ◌∷◌, ◌++◌, codes}
use Rattle.std.specs.List.{flat_map}
use Rattle.std.specs.Fmt.{decimal}
use Rattle.flow_draw.specs.declared.format.Format.TheVariants.{Svg}
use Rattle.flow_draw.specs.Escape.{escaped}
use Rattle.flow_draw.specs.Pieces.{joined}
use Rattle.flow_page.specs.declared.data.Part.{Part}
use Rattle.flow_page.specs.declared.data.Part.TheVariants.{Text, Picture, Table}
use Rattle.flow_page.specs.declared.data.Section.{Section}
use Rattle.flow_page.specs.Tables.{table_text}

unfoldable pub paragraph_text : List ℕ → List ℕ
paragraph_text words = joined (codes "<p>" ∷ escaped Svg words ∷ codes "</p>\n" ∷ [])

-- a picture as it is; its label is the heading of that number
unfoldable pub picture_text : ℕ → List ℕ → List ℕ
picture_text number svg = joined (
    codes "<div class=\"wide\" role=\"img\" aria-labelledby=\"part-" ∷ decimal number ∷ codes "\">\n" ∷ svg ∷ codes "</div>\n" ∷ [])

abbrev pub part_text : ℕ → Part → List ℕ
part_text number (Text words) = paragraph_text words
part_text number (Picture svg) = picture_text number svg.items
part_text number (Table table) = table_text number table

unfoldable pub heading_text : ℕ → List ℕ → List ℕ
heading_text number heading = joined (
    codes "<section aria-labelledby=\"part-" ∷ decimal number ∷ codes "\">\n<h2 id=\"part-" ∷ decimal number ∷ codes "\">"
    ∷ escaped Svg heading ∷ codes "</h2>\n" ∷ [])

-- its heading, and each part of it once, in order
unfoldable pub section_text : ℕ → Section → List ℕ
section_text number section =
    heading_text number section.heading ++ flat_map (part_text number) section.parts.items ++ codes "</section>\n"

-- one after another, numbered from there on
abbrev pub sections_text : ℕ → List Section → List ℕ
sections_text number [] = []
sections_text number (section ∷ sections) = section_text number section ++ sections_text (suc number) sections
