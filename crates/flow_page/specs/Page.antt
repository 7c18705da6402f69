-- A page.
use Rattle.std.specs.Prelude.{ℕ, List, [], ◌∷◌, ◌++◌, codes}
use Rattle.flow_draw.specs.declared.format.Format.TheVariants.{Svg}
use Rattle.flow_draw.specs.Escape.{escaped}
use Rattle.flow_draw.specs.Pieces.{joined}
use Rattle.flow_page.specs.declared.data.Page.{Page}
use Rattle.flow_page.specs.declared.style.TheConstants.{HEAD, STYLE}
use Rattle.flow_page.specs.Sections.{sections_text}

-- how it looks, and its title
unfoldable pub head_text : List ℕ → List ℕ
head_text title = joined (
    HEAD.now ∷ codes "<title>" ∷ escaped Svg title ∷ codes "</title>\n" ∷ STYLE.now
    ∷ codes "</head>\n<body>\n<main>\n<h1>" ∷ escaped Svg title ∷ codes "</h1>\n" ∷ [])

-- its title, and each section once, in order
unfoldable pub page_text : Page → List ℕ
page_text page = head_text page.title ++ sections_text 0 page.sections.items ++ codes "</main>\n</body>\n</html>\n"
