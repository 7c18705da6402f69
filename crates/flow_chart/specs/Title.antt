-- The title of a chart, where there is one.
use Rattle.std.specs.Prelude.{ℕ, List, [], ◌∷◌, ◌++◌, codes}
use Rattle.flow_chart.specs.declared.title.TheConstants.{FRONT, FRONT_END}
use Rattle.flow_draw.specs.declared.format.Format.{Format}
use Rattle.flow_draw.specs.declared.format.Format.TheVariants.{Mermaid, Dot}
use Rattle.flow_draw.specs.Escape.{escaped, quoted}
use Rattle.flow_draw.specs.Pieces.{joined}
use Rattle.flow_chart.specs.Words.{head_words}

-- of Mermaid in front of the flowchart
unfoldable pub front_text : List ℕ → List ℕ
front_text title = FRONT.now ++ quoted title ++ FRONT_END.now

abbrev pub front_of : List ℕ → List ℕ
front_of [] = []
front_of (b ∷ bs) = front_text (b ∷ bs)

abbrev pub title_before : Format → List ℕ → List ℕ
title_before Mermaid title = front_of title
title_before other title = []

-- of Graphviz at the head of a cluster that holds all parts
unfoldable pub cluster_text : List ℕ → List ℕ
cluster_text title =
    joined (codes "subgraph cluster_title {\nlabelloc=t;\ncolor=transparent;\nlabel=\"" ∷ escaped Dot title ∷ codes "\";\n" ∷ [])

abbrev pub cluster_of : List ℕ → List ℕ
cluster_of [] = []
cluster_of (b ∷ bs) = cluster_text (b ∷ bs)

abbrev pub title_behind : Format → List ℕ → List ℕ
title_behind Mermaid title = []
title_behind other title = cluster_of title

-- how a chart begins
abbrev pub chart_head : Format → List ℕ → List ℕ
chart_head format title = title_before format title ++ head_words format ++ title_behind format title

-- what stands behind all parts
abbrev pub title_foot : Format → List ℕ → List ℕ
title_foot format [] = []
title_foot Mermaid (b ∷ bs) = []
title_foot other (b ∷ bs) = codes "}\n"
