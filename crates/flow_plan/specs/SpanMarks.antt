-- Marks of a goal that are read for the spans of its isolated parts.
use Rattle.std.specs.Prelude.{◌≡◌, ◌+◌, ℕ, List, [], ◌∷◌, Some, reverse, slice_get}
use Rattle.flow_model.specs.Process.{Process, leaves}
use Rattle.flow_goal.specs.declared.node.Node.{Node}
use Rattle.flow_goal.specs.declared.node.Node.TheVariants.{Leaf, Open, Close}
use Rattle.flow_plan.specs.declared.outline.Outline.{Outline}
use Rattle.flow_plan.specs.declared.span.Span.{Span}
use Rattle.flow_plan.specs.Span.{AddsSpan, AddsSpans}
use Rattle.flow_plan.specs.Stacks.{WithTop}

-- the rest of the marks makes the spans of q: with the place of the next leaf, those of the parts that have
-- begun, and the spans so far
abbrev pub MakesSpans : Process → List Node → ℕ → List ℕ → List Span → Type 0
MakesSpans q [] k opens spans = AddsSpans q (leaves q) 0 [] spans
MakesSpans q (Leaf ∷ nodes) k opens spans = (n : ℕ) × (slice_get (leaves q) k ≡ Some n) × MakesSpans q nodes (k + 1) opens spans
MakesSpans q (Open ∷ nodes) k opens spans = MakesSpans q nodes k (k ∷ opens) spans
MakesSpans q (Close ∷ nodes) k opens spans = WithTop opens
    (λ first more. (new : List Span) → AddsSpan (record { first = first; end = k }) spans new → MakesSpans q nodes k more new)
MakesSpans q (node ∷ nodes) k opens spans = MakesSpans q nodes k opens spans

-- so do the marks from an outline on
abbrev pub Outlines : Process → List Node → Outline → Type 0
Outlines q nodes o = MakesSpans q nodes o.place (reverse o.opens.items) o.spans.items

-- the mark was read
abbrev pub Draws : Node → Outline → Outline → Type 0
Draws node old new = (q : Process) (nodes : List Node) → Outlines q (node ∷ nodes) old → Outlines q nodes new
