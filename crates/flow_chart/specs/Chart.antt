-- A picture's parts as a chart: nodes and edges. Nodes that are no leaves are numbered in the order of the walk.
use Rattle.std.specs.Prelude.{ℕ, ◌+◌, Bool, true, if◌then◌else◌, List, [], ◌∷◌, ◌++◌, Option, Some, None, codes}
use Rattle.std.specs.Fmt.{decimal}
use Rattle.flow_view.specs.declared.arrow.Arrow.{Arrow}
use Rattle.flow_view.specs.declared.labels.Labels.{Labels}
use Rattle.flow_view.specs.declared.mark.Mark.{Mark}
use Rattle.flow_view.specs.declared.scene.Fork.{Fork}
use Rattle.flow_view.specs.Sketch.{Sketch, gap, box, row, forked, framed}
use Rattle.flow_chart.specs.declared.chart.Ends.{Ends}
use Rattle.flow_chart.specs.declared.lines.Node.{Node}
use Rattle.flow_chart.specs.declared.lines.Node.TheVariants.{Leaf, Part}
use Rattle.flow_draw.specs.declared.format.Format.{Format}
use Rattle.flow_chart.specs.Lines.{edge_text, leaf_text, point_text, bars_text, frame_head, order_lines}
use Rattle.flow_chart.specs.Title.{chart_head, title_foot}
use Rattle.flow_chart.specs.Words.{foot_words, frame_foot, notes_open, notes_break, notes_close}
use Rattle.flow_draw.specs.Escape.{escaped}
use Rattle.flow_draw.specs.Lookup.{text_at, mark_at, frame_caption}
use Rattle.flow_draw.specs.Pieces.{joined}

-- A part that is a side hangs between two bars, which have a number and the next

-- a fork has bars of its own, unless it is a side of one of the same kind
abbrev pub has_bars : Fork → Option ℕ → Bool
has_bars fork None = true
has_bars fork (Some bars) = fork.barred

-- the bars between which its sides hang
abbrev pub host : Fork → Option ℕ → ℕ → ℕ
host fork None number = number
host fork (Some bars) number = if fork.barred then number else bars

-- the number of the first node of its sides
abbrev pub first_side : Fork → Option ℕ → ℕ → ℕ
first_side fork hung number = if has_bars fork hung then number + 2 else number

abbrev pub ends_at : Node → Node → ℕ → Ends
ends_at from to next = record { from = from; to = to; next = next }

abbrev pub bars_ends : ℕ → ℕ → Ends
bars_ends bars next = ends_at (Part bars) (Part (bars + 1)) next

-- where a part begins and ends, and the number of the next node
abbrev pub ends_of : Option ℕ → ℕ → Sketch → Ends
ends_of hung n gap = ends_at (Part n) (Part n) (n + 1)
ends_of hung n (box leaf letters) = ends_at (Leaf leaf) (Leaf leaf) n
ends_of hung n (row a b) = ends_at (ends_of None n a).from (ends_of None (ends_of None n a).next b).to (ends_of None (ends_of None n a).next b).next
ends_of hung n (forked f a b) =
    bars_ends (host f hung n) (ends_of (Some (host f hung n)) (ends_of (Some (host f hung n)) (first_side f hung n) a).next b).next
ends_of hung n (framed f a) = ends_at (ends_of None (n + 1) a).from (ends_of None (n + 1) a).to (ends_of None (n + 1) a).next

-- the edges from the bar to a side and on to the other bar
abbrev pub hung_text : Format → Option ℕ → Node → Node → List ℕ
hung_text format None from to = []
hung_text format (Some bars) from to = edge_text format (Part bars) from ++ edge_text format to (Part (bars + 1))

abbrev pub own_bars : Format → Fork → Option ℕ → ℕ → List ℕ
own_bars format f hung n = if has_bars f hung then bars_text format f.sides n ++ hung_text format hung (Part n) (Part (n + 1)) else []

-- the parts of a picture with the edges between them
abbrev pub scene_text : Format → Labels → List Mark → Option ℕ → ℕ → Sketch → List ℕ
scene_text format labels marks hung n gap = point_text format n ++ hung_text format hung (Part n) (Part n)
scene_text format labels marks hung n (box leaf letters) =
    leaf_text format leaf (text_at labels.boxes.items leaf) (mark_at marks leaf) ++ hung_text format hung (Leaf leaf) (Leaf leaf)
scene_text format labels marks hung n (row a b) =
    scene_text format labels marks None n a ++ scene_text format labels marks None (ends_of None n a).next b
    ++ edge_text format (ends_of None n a).to (ends_of None (ends_of None n a).next b).from
    ++ hung_text format hung (ends_of None n a).from (ends_of None (ends_of None n a).next b).to
scene_text format labels marks hung n (forked f a b) =
    own_bars format f hung n ++ scene_text format labels marks (Some (host f hung n)) (first_side f hung n) a
    ++ scene_text format labels marks (Some (host f hung n)) (ends_of (Some (host f hung n)) (first_side f hung n) a).next b
scene_text format labels marks hung n (framed f a) =
    frame_head format n (frame_caption labels f) ++ scene_text format labels marks None (n + 1) a ++ frame_foot format
    ++ hung_text format hung (ends_of None (n + 1) a).from (ends_of None (n + 1) a).to

-- a constraint with its number
unfoldable pub note_text : Format → ℕ → List ℕ → List ℕ
note_text format number rule = joined (decimal number ∷ codes " " ∷ escaped format rule ∷ notes_break format ∷ [])

abbrev pub note_lines : Format → ℕ → List (List ℕ) → List ℕ
note_lines format number [] = []
note_lines format number (rule ∷ rules) = note_text format number rule ++ note_lines format (number + 1) rules

-- the constraints, where there are any
abbrev pub notes_text : Format → List (List ℕ) → List ℕ
notes_text format [] = []
notes_text format (rule ∷ rules) = notes_open format ++ note_lines format 0 (rule ∷ rules) ++ notes_close format

-- the title, the parts, the arrows of constraints, and the constraints
abbrev pub chart_text : Format → List ℕ → Sketch → List Arrow → Labels → List Mark → List (List ℕ) → List ℕ
chart_text format title s arrows labels marks rules =
    chart_head format title ++ scene_text format labels marks None 0 s ++ order_lines format arrows ++ title_foot format title
    ++ notes_text format rules ++ foot_words format
