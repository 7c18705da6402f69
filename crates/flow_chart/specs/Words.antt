-- What the two forms of a chart say differently: flowcharts of Mermaid, and graphs of Graphviz.
use Rattle.std.specs.Prelude.{ℕ, List, [], codes}
use Rattle.flow_view.specs.declared.mark.Mark.{Mark}
use Rattle.flow_view.specs.declared.mark.Mark.TheVariants.{Plain, Done, Next, Claimed, Failed, Banned}
use Rattle.flow_view.specs.declared.scene.Sides.{Sides}
use Rattle.flow_view.specs.declared.scene.Sides.TheVariants.{Beside, Either}
use Rattle.flow_chart.specs.declared.words.TheConstants.{MERMAID_HEAD, DOT_HEAD}
use Rattle.flow_draw.specs.declared.format.Format.{Format}
use Rattle.flow_draw.specs.declared.format.Format.TheVariants.{Mermaid}

-- how a chart begins
abbrev pub head_words : Format → List ℕ
head_words Mermaid = MERMAID_HEAD.now
head_words other = DOT_HEAD.now

-- how a chart ends
abbrev pub foot_words : Format → List ℕ
foot_words Mermaid = []
foot_words other = codes "}\n"

-- how a line ends
abbrev pub end_words : Format → List ℕ
end_words Mermaid = codes "\n"
end_words other = codes ";\n"

-- what stands between the ends of an edge
abbrev pub edge_words : Format → List ℕ
edge_words Mermaid = codes " --> "
edge_words other = codes " -> "

-- what stands before a label
abbrev pub open_words : Format → List ℕ
open_words Mermaid = codes "[\""
open_words other = codes " [label=\""

-- what stands behind a label
abbrev pub close_words : Format → List ℕ
close_words Mermaid = codes "\"]"
close_words other = codes "\""

-- what makes a node a point
abbrev pub point_words : Format → List ℕ
point_words Mermaid = codes "(( ))\n"
point_words other = codes " [shape=point];\n"

-- what stands before the number of a frame
abbrev pub frame_open : Format → List ℕ
frame_open Mermaid = codes "subgraph frame"
frame_open other = codes "subgraph cluster_frame"

-- what stands before the caption of a frame
abbrev pub frame_label : Format → List ℕ
frame_label Mermaid = codes "[\""
frame_label other = codes " {\nstyle=rounded;\ncolor=\"#8c959f\";\nlabel=\""

-- what stands behind the caption of a frame
abbrev pub frame_close : Format → List ℕ
frame_close Mermaid = codes "\"]\n"
frame_close other = codes "\";\n"

-- how a frame ends
abbrev pub frame_foot : Format → List ℕ
frame_foot Mermaid = codes "end\n"
frame_foot other = codes "}\n"

-- what stands before the constraints
abbrev pub notes_open : Format → List ℕ
notes_open Mermaid = codes "notes[\""
notes_open other = codes "labelloc=b;\nlabel=\""

-- what stands behind a constraint
abbrev pub notes_break : Format → List ℕ
notes_break Mermaid = codes "<br/>"
notes_break other = codes "\\l"

-- what stands behind the constraints
abbrev pub notes_close : Format → List ℕ
notes_close Mermaid = codes "\"]:::notes\n"
notes_close other = codes "\";\n"

-- what stands between a label and the word of its mark
abbrev pub break_words : Format → Mark → List ℕ
break_words format Plain = []
break_words Mermaid marked = codes "<br/>"
break_words other marked = codes "\\n"

-- how the box of a leaf looks that has the mark: by a class, or by colours and lines
abbrev pub class_words : Mark → List ℕ
class_words Plain = []
class_words Done = codes ":::done"
class_words Next = codes ":::next"
class_words Claimed = codes ":::claimed"
class_words Failed = codes ":::failed"
class_words Banned = codes ":::banned"

abbrev pub colour_words : Mark → List ℕ
colour_words Plain = codes "]"
colour_words Done = codes ", class=done, fillcolor=\"#dafbe1\", color=\"#1a7f37\", penwidth=2]"
colour_words Next = codes ", class=next, fillcolor=\"#ddf4ff\", color=\"#0969da\", penwidth=4]"
colour_words Claimed = codes ", class=claimed, fillcolor=\"#fff8c5\", color=\"#9a6700\", style=\"rounded,filled,dashed\"]"
colour_words Failed = codes ", class=failed, fillcolor=\"#ffebe9\", color=\"#cf222e\", peripheries=2]"
colour_words Banned = codes ", class=banned, fillcolor=\"#f6f8fa\", fontcolor=\"#6e7781\", style=\"rounded,filled,dotted\"]"

abbrev pub mark_words : Format → Mark → List ℕ
mark_words Mermaid mark = class_words mark
mark_words other mark = colour_words mark

-- what makes a node a bar: where all sides part or meet a box, and where one is chosen a lozenge
abbrev pub bar_words : Format → Sides → List ℕ
bar_words Mermaid Beside = codes "[\"#124;\"]:::bar\n"
bar_words Mermaid Either = codes "{\"+\"}\n"
bar_words other Beside = codes " [shape=box, style=filled, fillcolor=\"#57606a\", label=\"\", width=0.09, height=0.6];\n"
bar_words other Either = codes " [shape=diamond, style=filled, label=\"+\", margin=0, width=0.35, height=0.35];\n"
