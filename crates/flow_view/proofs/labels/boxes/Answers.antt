use Rattle.std.proofs.Common.{◌++◌, ◌∷◌, [], map, ap, ◌∙◌}
use Rattle.flow_model.specs.Lists.{numbers_from}
use Rattle.flow_view.specs.Texts.{box_text}
use Rattle.flow_view.proofs.FlowsLemmas.{texts_more}
use Rattle.flow_view.proofs.labels.boxes.Goals as goal

pub loop-leaf-preserved : goal.loop-leaf-preserved
loop-leaf-preserved c =
    let w = c.args.workflow.now in
    c.in_ok-push.ensures.items ∙ ap (λ l. l ++ c.in_ok-box_text.field-0 ∷ []) c.loop-leaf.invariant
    ∙ ap (λ x. map (box_text w) (numbers_from 0 c.loop-leaf.leaf) ++ x ∷ []) c.in_ok-box_text.ensures ∙ texts_more (box_text w) c.loop-leaf.leaf
