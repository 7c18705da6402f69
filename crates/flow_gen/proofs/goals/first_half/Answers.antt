use Rattle.std.proofs.Common.{ap, sym, refl, ◌∙◌, Bool, if◌then◌else◌}
use Rattle.flow_form.specs.declared.form.Form.{Form}
use Rattle.flow_form.specs.Form.{iso, shape_of}
use Rattle.flow_form.proofs.Shapes.{shape_of-Iso}
use Rattle.flow_gen.specs.Generated.{series}
use Rattle.flow_gen.proofs.goals.first_half.Goals as goal

pub returns-then-isolated : goal.returns-then-isolated
returns-then-isolated c =
    shape_of-Iso _ _ refl ∙ ap (λ (form : Form). iso (shape_of form)) c.in_ok-new.ensures.ok ∙ ap iso c.in_ok-events.ensures
    ∙ ap (λ (isolated : Bool). if isolated then iso (series c.args.first 4) else series c.args.first 4) (sym c.if-isolated.true)

pub returns : goal.returns
returns c = c.in_ok-events.ensures ∙ ap (λ (isolated : Bool). if isolated then iso (series c.args.first 4) else series c.args.first 4) (sym c.if-isolated.false)
