use Rattle.std.proofs.Common.{List, [], ◌∷◌, ◌++◌, ◌∙◌, ap, map, sym, take}
use Rattle.std.proofs.lemmas.List.{map-append, take_all, take_more}
use Rattle.flow_plan.specs.declared.part_row.PartRow.{PartRow}
use Rattle.flow_plan.specs.declared.span.Span.{Span}
use Rattle.flow_plan.proofs.table.spans_of.Goals as goal

pub loop-part-preserved : goal.loop-part-preserved
loop-part-preserved g c =
    let v = λ (row : PartRow g.row.W). row.span in
    let i = c.loop-part.part-index in
    let parts = c.args.parts.now in
    let row = c.part-item.result in
    c.in_ok-push.ensures.items
    ∙ ap (λ (l : List Span). l ++ row.span ∷ []) c.loop-part.invariant
    ∙ sym (map-append v (take i parts) (row ∷ []))
    ∙ ap (map v) (sym (take_more parts i row c.loop-part-test.true ∙ ap (λ (r : PartRow g.row.W). take i parts ++ r ∷ []) (sym c.part-item.is)))

pub returns : goal.returns
returns g c = c.loop-part.invariant ∙ ap (map (λ (row : PartRow g.row.W). row.span)) (take_all c.loop-part.part-index c.args.parts.now c.loop-part-test.false)
