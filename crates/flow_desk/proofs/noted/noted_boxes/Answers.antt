use Rattle.std.proofs.Common.{◌≡◌, ◌++◌, ◌∷◌, [], ap, ◌∙◌}
use Rattle.flow_desk.specs.Noted.{noted_text, noted_texts}
use Rattle.flow_desk.proofs.Noting.{next_shown}
use Rattle.flow_desk.proofs.noted.noted_boxes.Goals as goal

pub loop-place-preserved : goal.loop-place-preserved
loop-place-preserved c =
    let notes = c.args.notes.now in
    let boxes = c.args.boxes.now in
    let place = c.loop-place.place in
    next_shown notes boxes c.loop-place.shown.items c.push.new.self.items (noted_texts notes boxes) place c.index-boxes-place.result c.loop-place-test.true
    c.index-boxes-place.is
    (c.in_ok-push.ensures.items ∙ ap (λ t. c.loop-place.shown.items ++ t ∷ []) (c.in_ok-noted_box.ensures ∙ ap (noted_text c.index-boxes-place.result) c.text_at.ensures))
    c.loop-place.invariant
