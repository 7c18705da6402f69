-- The lines of a chart.
use Rattle.std.specs.Prelude.{ℕ, ◌+◌, List, [], ◌∷◌, codes}
use Rattle.std.specs.List.{flat_map}
use Rattle.std.specs.Fmt.{decimal}
use Rattle.flow_view.specs.declared.arrow.Arrow.{Arrow}
use Rattle.flow_view.specs.declared.mark.Mark.{Mark}
use Rattle.flow_view.specs.declared.scene.Sides.{Sides}
use Rattle.flow_chart.specs.declared.lines.Node.{Node}
use Rattle.flow_chart.specs.declared.lines.Node.TheVariants.{Leaf, Part}
use Rattle.flow_draw.specs.declared.format.Format.{Format}
use Rattle.flow_draw.specs.declared.format.Format.TheVariants.{Mermaid}
use Rattle.flow_chart.specs.Words.{end_words, edge_words, open_words, close_words, break_words, mark_words, point_words, bar_words, frame_open, frame_label, frame_close}
use Rattle.flow_draw.specs.Escape.{escaped}
use Rattle.flow_draw.specs.Lookup.{mark_word}
use Rattle.flow_draw.specs.Pieces.{joined}

abbrev pub node_words : Node → List ℕ
node_words (Leaf leaf) = codes "leaf"
node_words (Part number) = codes "part"

abbrev pub node_number : Node → ℕ
node_number (Leaf leaf) = leaf
node_number (Part number) = number

unfoldable pub edge_text : Format → Node → Node → List ℕ
edge_text format from to = joined (
    node_words from ∷ decimal (node_number from) ∷ edge_words format ∷ node_words to ∷ decimal (node_number to) ∷ end_words format ∷ [])

-- the box of a leaf with its label, and with its mark in words and as a class or colour
unfoldable pub leaf_text : Format → ℕ → List ℕ → Mark → List ℕ
leaf_text format leaf label mark = joined (
    codes "leaf" ∷ decimal leaf ∷ open_words format ∷ escaped format label ∷ break_words format mark ∷ mark_word mark
    ∷ close_words format ∷ mark_words format mark ∷ end_words format ∷ [])

unfoldable pub point_text : Format → ℕ → List ℕ
point_text format number = joined (codes "part" ∷ decimal number ∷ point_words format ∷ [])

-- two bars, which have that number and the next
unfoldable pub bars_text : Format → Sides → ℕ → List ℕ
bars_text format sides number = joined (
    codes "part" ∷ decimal number ∷ bar_words format sides ∷ codes "part" ∷ decimal (number + 1) ∷ bar_words format sides ∷ [])

unfoldable pub frame_head : Format → ℕ → List ℕ → List ℕ
frame_head format number caption = joined (
    frame_open format ∷ decimal number ∷ frame_label format ∷ escaped format caption ∷ frame_close format ∷ [])

-- the arrow of a constraint, with its number
unfoldable pub mermaid_order : Arrow → List ℕ
mermaid_order arrow = joined (
    codes "leaf" ∷ decimal arrow.from ∷ codes " -.->|" ∷ decimal arrow.rule ∷ codes "| leaf" ∷ decimal arrow.to ∷ codes "\n" ∷ [])

unfoldable pub dot_order : Arrow → List ℕ
dot_order arrow = joined (
    codes "leaf" ∷ decimal arrow.from ∷ codes " -> leaf" ∷ decimal arrow.to
    ∷ codes " [style=dashed, color=\"#8250df\", fontcolor=\"#8250df\", constraint=false, label=\"" ∷ decimal arrow.rule ∷ codes "\"];\n" ∷ [])

abbrev pub order_text : Format → Arrow → List ℕ
order_text Mermaid arrow = mermaid_order arrow
order_text other arrow = dot_order arrow

abbrev pub order_lines : Format → List Arrow → List ℕ
order_lines format arrows = flat_map (order_text format) arrows
