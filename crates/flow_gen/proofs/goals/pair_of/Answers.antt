use Rattle.std.proofs.Common.{refl, ap, ◌∙◌}
use Rattle.flow_form.specs.Form.{beside, shapes}
use Rattle.flow_form.proofs.Shapes.{shape_of-Beside}
use Rattle.flow_gen.proofs.Steps.{two_put}
use Rattle.flow_gen.proofs.goals.pair_of.Goals as goal

pub returns : goal.returns
returns c =
    shape_of-Beside _ c.push-2.new.self _ refl refl
    ∙ ap (λ ss. beside (shapes ss))
    (two_put _ _ _ _ _ _ _ c.new-forms.ensures.items c.in_ok-push.ensures.items c.in_ok-push-2.ensures.items c.in_ok-block_of.ensures c.in_ok-block_of-2.ensures)
